-- Lists of positions.
use Rattle.std.specs.Prelude.{◌≡◌, ◌==◌, ◌↔◌, ℕ, ◌+◌, ◌<◌, Bool, false, if◌then◌else◌, List, [], ◌∷◌, length, Some, slice_get}
use Rattle.guppy_search.specs.IxSet.{has}

-- x stands in the list
abbrev pub Stands : List ℕ → ℕ → Type 0
Stands order x = (i : ℕ) × (slice_get order i ≡ Some x)

-- x stands in the list, before the place n
abbrev pub StandsBefore : List ℕ → ℕ → ℕ → Type 0
StandsBefore order n x = (i : ℕ) × (i < n) × (slice_get order i ≡ Some x)

-- x stands before y
abbrev pub Precedes : List ℕ → ℕ → ℕ → Type 0
Precedes xs x y = (i j : ℕ) × (i < j) × (slice_get xs i ≡ Some x) × (slice_get xs j ≡ Some y)

-- nothing stands there twice
abbrev pub IsOnce : List ℕ → Type 0
IsOnce list = (i j x : ℕ) → slice_get list i ≡ Some x → slice_get list j ≡ Some x → i ≡ j

-- each number below n, once, and no other
pub record IsListing (n : ℕ) (list : List ℕ) : Type 0 where
  pub count : length list ≡ n
  pub once : IsOnce list
  pub below : (i x : ℕ) → slice_get list i ≡ Some x → x < n
  pub all : (x : ℕ) → x < n → Stands list x

-- each is above those before it
abbrev pub Ascends : List ℕ → Type 0
Ascends list = (i j x y : ℕ) → slice_get list i ≡ Some x → slice_get list j ≡ Some y → i < j → x < y

-- the positions below n that are not in the set, ascending
pub record IsAbsence (set : List Bool) (n : ℕ) (list : List ℕ) : Type 0 where
  pub ascends : Ascends list
  pub members : (p : ℕ) → Stands list p ↔ ((p < n) × (has set p ≡ false))

-- at each number of the list, its place there
pub record IsInverse (list places : List ℕ) : Type 0 where
  pub count : length places ≡ length list
  pub place : (i p : ℕ) → slice_get list i ≡ Some p → slice_get places p ≡ Some i

-- the place of x in the list, or the list's length where it doesn't stand there
abbrev pub place_in : List ℕ → ℕ → ℕ
place_in [] x = 0
place_in (y ∷ ys) x = if y == x then 0 else 1 + place_in ys x
