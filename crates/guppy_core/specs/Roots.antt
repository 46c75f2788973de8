-- The roots of a set of positions.
use Rattle.std.specs.Prelude.{◌≡◌, ◌↔◌, ℕ, Bool, List, slice_index}
use Rattle.guppy_search.specs.IxSet.{IsIn}
use Rattle.guppy_core.specs.Listing.{Stands, Ascends}

-- A step is a link that leads from one position to another in a direction; Same says who is in one
-- component with x.

-- a step from this position, which is outside x's component, leads to one of the component that is
-- in the set
abbrev pub EntersFrom : (ℕ → ℕ → Type 0) → (ℕ → ℕ → Type 0) → List Bool → ℕ → ℕ → Type 0
EntersFrom Step Same set near x =
    (far : ℕ) × Step near far × IsIn set far × Same x far × (¬ Same x near)

-- a step inside the set leads to x's component from outside it
abbrev pub IsEntered : (ℕ → ℕ → Type 0) → (ℕ → ℕ → Type 0) → List Bool → ℕ → Type 0
IsEntered Step Same set x = (near : ℕ) × IsIn set near × EntersFrom Step Same set near x

-- x is in the set, and no step inside the set enters its component
abbrev pub IsRoot : (ℕ → ℕ → Type 0) → (ℕ → ℕ → Type 0) → List Bool → ℕ → Type 0
IsRoot Step Same set x = IsIn set x × (¬ IsEntered Step Same set x)

-- exactly the roots of the set, ascending
pub record AreRoots (Step Same : ℕ → ℕ → Type 0) (set : List Bool) (list : List ℕ) : Type 0 where
  pub ascends : Ascends list
  pub members : (x : ℕ) → Stands list x ↔ IsRoot Step Same set x

-- y has the number x
abbrev pub HasNumber : List ℕ → ℕ → ℕ → Type 0
HasNumber numbers x y = slice_index numbers y ≡ x
