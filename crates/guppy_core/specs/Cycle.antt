-- Cycles of steps.
use Rattle.std.specs.Prelude.{◌≡◌, ◌==◌, ℕ, ◌+◌, ◌≤◌, if◌then◌else◌, List, [], ◌∷◌, length, Some, slice_get}
use Rattle.guppy_core.specs.Listing.{IsOnce}

-- two or more, each once, each with a step to the next, and the last with one to the first
pub record IsCycle (R : ℕ → ℕ → Type 0) (list : List ℕ) : Type 0 where
  pub several : 2 ≤ length list
  pub once : IsOnce list
  pub steps : (i x y : ℕ) → slice_get list i ≡ Some x → slice_get list (i + 1) ≡ Some y → R x y
  pub back : (i x y : ℕ) → slice_get list i ≡ Some x → i + 1 ≡ length list
      → slice_get list 0 ≡ Some y → R x y

-- no list is a cycle
abbrev pub IsAcyclic : (ℕ → ℕ → Type 0) → Type 0
IsAcyclic R = (list : List ℕ) → ¬ IsCycle R list

-- the list from the first x on
abbrev pub from_first : ℕ → List ℕ → List ℕ
from_first x [] = []
from_first x (y ∷ ys) = if y == x then y ∷ ys else from_first x ys
