-- What one mark does.
use Rattle.std.specs.Prelude.{◌≡◌, ◌⊎◌, ℕ, Bool, true, false, List, [], ◌∷◌, ◌++◌, slice_set}
use Rattle.guppy_search.specs.IxSet.{has}

-- a position that was seen changes nothing; a new one is put into the set and onto the stack
abbrev pub Marks : ℕ → List Bool → List ℕ → List Bool → List ℕ → Type 0
Marks p seen stack seen' stack' =
    ((has seen p ≡ true) × (seen' ≡ seen) × (stack' ≡ stack))
    ⊎ ((has seen p ≡ false) × (seen' ≡ slice_set seen p true) × (stack' ≡ stack ++ p ∷ []))
