-- What a claim of positions leaves.
use Rattle.std.specs.Prelude.{◌≡◌, ◌⊎◌, ℕ, Bool, true, false, List, slice_index, slice_set}
use Rattle.guppy_search.specs.IxSet.{has}

-- no step leads out of the set
abbrev pub IsClosed : (ℕ → ℕ → Type 0) → List Bool → Type 0
IsClosed R s = (x y : ℕ) → has s x ≡ true → R x y → has s y ≡ true

-- a new position gets the number
abbrev pub Numbers : ℕ → ℕ → List Bool → List ℕ → List ℕ → Type 0
Numbers p number s numbers numbers' = ((has s p ≡ true) × (numbers' ≡ numbers))
    ⊎ ((has s p ≡ false) × (numbers' ≡ slice_set numbers p number))

-- of those in the set s', those that were in s keep their numbers, and the others have the number
abbrev pub Claims : ℕ → List Bool → List ℕ → List Bool → List ℕ → Type 0
Claims number s numbers s' numbers' = (q : ℕ) → has s' q ≡ true
    → ((has s q ≡ true) × (slice_index numbers' q ≡ slice_index numbers q))
    ⊎ ((has s q ≡ false) × (slice_index numbers' q ≡ number))
