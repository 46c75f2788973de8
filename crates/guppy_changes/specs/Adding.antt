-- What is added to a list, as a relation states it.
use Rattle.std.specs.Prelude.{◌≡◌, ◌⊎◌, List, Contains}

-- what was there is kept, what is new is what the relation states, and all of that is there
pub record Adds {M : Type 0} (R : M → Type 0) (old new : List M) : Type 0 where
  pub kept : (m : M) → Contains old m → Contains new m
  pub sound : (m : M) → Contains new m → Contains old m ⊎ R m
  pub whole : (m : M) → R m → Contains new m

module _ {M : Type 0} where
  -- this one, if so
  abbrev pub Where : Type 0 → M → M → Type 0
  Where P one m = P × (m ≡ one)

  -- what one of two relations states
  abbrev pub Either : (M → Type 0) → (M → Type 0) → M → Type 0
  Either R S m = R m ⊎ S m

  -- what the relation of one of the elements states
  abbrev pub OfSome : {X : Type 0} → List X → (X → M → Type 0) → M → Type 0
  OfSome {X} xs R m = (x : X) × Contains xs x × R x m
