-- The first item of a list that lacks a property.
use Rattle.std.specs.Prelude.{◌≡◌, ℕ, List, Some, slice_get, All, take}

-- at the place stands the first item of the list of which P doesn't hold
pub record IsFirstWithout {A : Type 0} (P : A → Type 0) (items : List A) (place : ℕ) : Type 0 where
  pub item : A
  pub found : slice_get items place ≡ Some item
  pub lacks : ¬ P item
  pub before : All P (take place items)
