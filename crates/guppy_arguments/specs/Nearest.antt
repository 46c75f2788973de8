-- The nearest of some names.
use Rattle.std.specs.Prelude.{◌≡◌, ℕ, ◌<◌, ◌≤◌, List, Some, length, nat_eq, slice_get}
use Rattle.std.specs.Str.{chars}
use Rattle.strsim.specs.Edits.{levenshtein_row}

-- how many edits lead from one text to the other
abbrev pub edits : List ℕ → List ℕ → ℕ
edits from to = levenshtein_row nat_eq (chars from) (chars to) (length (chars to))

-- more than three edits lead to each of the names
abbrev pub IsFar : List ℕ → List (List ℕ) → Type 0
IsFar word names = (k : ℕ) (name : List ℕ) → slice_get names k ≡ Some name → 3 < edits word name

-- at most three edits lead to the name, no fewer to another one, and more to those before it
pub record IsNearest (word : List ℕ) (names : List (List ℕ)) (near : List ℕ) : Type 0 where
  pub place : ℕ
  pub at : slice_get names place ≡ Some near
  pub close : edits word near ≤ 3
  pub least : (k : ℕ) (name : List ℕ) → slice_get names k ≡ Some name → edits word near ≤ edits word name
  pub first : (k : ℕ) (name : List ℕ) → k < place → slice_get names k ≡ Some name
      → edits word near < edits word name
