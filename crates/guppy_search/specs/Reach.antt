-- Walks over links.
use Rattle.std.specs.Prelude.{◌≡◌, ◌↔◌, ℕ, Bool, true, List, Some, slice_get}
use Rattle.guppy_search.specs.declared.ix.direction.DependencyDirection.{DependencyDirection}
use Rattle.guppy_search.specs.declared.graph_core.link.Link.{Link}
use Rattle.guppy_search.specs.Links.{near_end, far_end}
use Rattle.guppy_search.specs.IxSet.{IsIn}

-- a kept link leads from a to b in this direction
pub record Step {E : Type 0} (d : DependencyDirection) (keep : E → Bool) (links : List (Link E))
    (a b : ℕ) : Type 0 where
  pub number : ℕ
  pub link : Link E
  pub found : slice_get links number ≡ Some link
  pub near : near_end d link ≡ a
  pub far : far_end d link ≡ b
  pub kept : keep link.edge ≡ true

-- some walk of steps leads from a to b
pub data Walk (R : ℕ → ℕ → Type 0) : ℕ → ℕ → Type 0 where
  here : {a : ℕ} → Walk R a a
  step : {a b c : ℕ} → Walk R a b → R b c → Walk R a c

-- a link leads from a to b in this direction
abbrev pub LinkStep : {E : Type 0} → DependencyDirection → List (Link E) → ℕ → ℕ → Type 0
LinkStep d links = Step d (λ _. true) links

-- a walk over kept links leads from a to b
abbrev pub Reach : {E : Type 0} → DependencyDirection → (E → Bool) → List (Link E) → ℕ → ℕ → Type 0
Reach d keep links = Walk (Step d keep links)

-- a walk leads from one of the starts to b
abbrev pub ReachedFrom : (ℕ → ℕ → Type 0) → (ℕ → Type 0) → ℕ → Type 0
ReachedFrom R IsStart b = (a : ℕ) × IsStart a × Walk R a b

-- the set is what a plain resolve includes: what walks over links reach from the initial positions
abbrev pub IsPlainResolve : {E : Type 0} → DependencyDirection → List (Link E) → List Bool
    → List Bool → Type 0
IsPlainResolve d links initials set =
    (p : ℕ) → IsIn set p ↔ ReachedFrom (LinkStep d links) (IsIn initials) p

-- walks lead both ways
abbrev pub Mutual : (ℕ → ℕ → Type 0) → ℕ → ℕ → Type 0
Mutual R x y = Walk R x y × Walk R y x
