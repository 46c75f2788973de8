-- The order of positions by components.
use Rattle.std.specs.Prelude.{ℕ, ◌<◌, List}
use Rattle.guppy_search.specs.Reach.{Walk, Mutual}
use Rattle.guppy_core.specs.Listing.{IsListing, Precedes}

-- the order has the positions below n, component by component, dependents first, each component by
-- the index
pub record IsOrder (R : ℕ → ℕ → Type 0) (n : ℕ) (index order : List ℕ) : Type 0 where
  -- each position stands there once
  pub listing : IsListing n order
  -- what stands between two of a component is of it
  pub together : (x y z : ℕ) → Precedes order x y → Precedes order y z → Mutual R x z → Mutual R x y
  -- a step between two components leads to a later position
  pub forward : (x y : ℕ) → x < n → y < n → R x y → ¬ Walk R y x → Precedes order x y
  -- in a component the positions stand as they do in the index
  pub inside : (x y : ℕ) → Precedes order x y → Mutual R x y → Precedes index x y
