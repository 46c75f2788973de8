-- Sets of positions.
use Rattle.std.specs.Prelude.{◌≡◌, ◌⊎◌, ◌↔◌, ℕ, ◌+◌, ◌/◌, ◌%◌, ◌<◌, ◌≤◌, ◌^◌, ◌==◌, Bool, true, false, List, [], ◌∷◌, length, map, drop, slice_index, slice_index_or, if◌then◌else◌}
use Rattle.std.specs.Int.{bit_at}
use Rattle.std.specs.List.{range_with_len}

-- A set of positions is the list that has true at the positions in it. Its length is the number of
-- positions that there are.

-- whether the position is in the set
abbrev pub has : List Bool → ℕ → Bool
has s p = slice_index_or s p false

-- the position is in the set
abbrev pub IsIn : List Bool → ℕ → Type 0
IsIn s p = has s p ≡ true

-- each position of the first set is in the second
abbrev pub IsSubset : List Bool → List Bool → Type 0
IsSubset s t = (p : ℕ) → IsIn s p → IsIn t p

-- the positions of the set are those of the two
abbrev pub IsUnion : List Bool → List Bool → List Bool → Type 0
IsUnion s t both = (p : ℕ) → IsIn both p ↔ (IsIn s p ⊎ IsIn t p)

-- the positions of the set are those in both
abbrev pub IsIntersection : List Bool → List Bool → List Bool → Type 0
IsIntersection s t common = (p : ℕ) → IsIn common p ↔ (IsIn s p × IsIn t p)

-- the positions of the set are those of the first that are not in the second
abbrev pub IsDifference : List Bool → List Bool → List Bool → Type 0
IsDifference s t rest = (p : ℕ) → IsIn rest p ↔ (IsIn s p × (¬ IsIn t p))

-- the positions of the set are those in one of the two and not in the other
abbrev pub IsSymmetricDifference : List Bool → List Bool → List Bool → Type 0
IsSymmetricDifference s t either =
    (p : ℕ) → IsIn either p ↔ ((IsIn s p × (¬ IsIn t p)) ⊎ (IsIn t p × (¬ IsIn s p)))

-- how many positions are in the set
abbrev pub member_count : List Bool → ℕ
member_count [] = 0
member_count (true ∷ s) = 1 + member_count s
member_count (false ∷ s) = member_count s

-- the positions in the set, ascending, where the list begins at the position i
abbrev pub positions_from : ℕ → List Bool → List ℕ
positions_from i [] = []
positions_from i (m ∷ s) = if m then i ∷ positions_from (i + 1) s else positions_from (i + 1) s

-- the positions in the set, ascending
abbrev pub positions_in : List Bool → List ℕ
positions_in s = positions_from 0 s

-- p is the first position in the set from the start on
pub record IsFirstFrom (s : List Bool) (start p : ℕ) : Type 0 where
  pub within : p < length s
  pub fits : p < 2 ^ 32
  pub is_next : positions_from start (drop start s) ≡ p ∷ positions_from (p + 1) (drop (p + 1) s)

-- whether the bit of a position is set, 64 to a word
abbrev pub is_marked : List ℕ → ℕ → Bool
is_marked words p = bit_at (slice_index words (p / 64)) (p % 64) == 1

-- the set that the words hold, of so many positions
abbrev pub marks_of : List ℕ → ℕ → List Bool
marks_of words count = map (is_marked words) (range_with_len 0 count)

-- the words have a bit for each position and no other bit is set, len counts the bits that are set,
-- and the positions in the set fit an index
pub record IsBitSet (words : List ℕ) (count len : ℕ) : Type 0 where
  pub room : length words ≡ count / 64 + 1
  pub small : count < 2 ^ 64
  pub counted : len ≡ member_count (marks_of words count)
  pub fit : (p : ℕ) → IsIn (marks_of words count) p → p < 2 ^ 32
  pub clear : (p : ℕ) → count ≤ p → is_marked words p ≡ false
