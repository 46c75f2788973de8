-- Topological orders of positions, also where there are cycles.
use Rattle.std.specs.Prelude.{◌≡◌, ◌≢◌, ℕ, ◌<◌, List}
use Rattle.guppy_search.specs.Reach.{Walk, ReachedFrom}
use Rattle.guppy_core.specs.Listing.{IsListing, Precedes}

-- a step leads from a to p, and these are different
abbrev pub LeadsAway : (ℕ → ℕ → Type 0) → ℕ → ℕ → Type 0
LeadsAway R a p = R a p × (a ≢ p)

-- a step leads to p from another position
abbrev pub IsSteppedTo : (ℕ → ℕ → Type 0) → ℕ → Type 0
IsSteppedTo R p = (a : ℕ) × LeadsAway R a p

-- p is below n, and no step leads to it from another position
abbrev pub IsIndexRoot : (ℕ → ℕ → Type 0) → ℕ → ℕ → Type 0
IsIndexRoot R n p = (p < n) × ((a : ℕ) → R a p → a ≡ p)

-- a walk leads to p from a root
abbrev pub FromRoot : (ℕ → ℕ → Type 0) → ℕ → ℕ → Type 0
FromRoot R n = ReachedFrom R (IsIndexRoot R n)

-- a topological order of the positions below n
pub record IsTopo (R : ℕ → ℕ → Type 0) (n : ℕ) (order : List ℕ) : Type 0 where
  -- each position stands there once
  pub listing : IsListing n order
  -- of a step from u to v, where roots lead to u and v does not lead to u, u stands first
  pub steps : (u v : ℕ) → FromRoot R n u → R u v → ¬ Walk R v u → Precedes order u v
  -- those to which no root leads stand last
  pub last : (u v : ℕ) → v < n → FromRoot R n u → ¬ FromRoot R n v → Precedes order u v
  -- and ascend
  pub ascending : (u v : ℕ) → ¬ FromRoot R n u → ¬ FromRoot R n v → Precedes order u v → u < v

-- no steps lead round to another position
abbrev pub HasNoCycle : (ℕ → ℕ → Type 0) → Type 0
HasNoCycle R = (x y : ℕ) → R x y → Walk R y x → x ≡ y

-- each step to another position leads on in the order
abbrev pub LeadsOn : (ℕ → ℕ → Type 0) → List ℕ → Type 0
LeadsOn R order = (x y : ℕ) → R x y → x ≢ y → Precedes order x y
