-- What a word means.
use Rattle.std.specs.Prelude.{◌≡◌, ℕ, List, [], ◌∷◌}

-- the word means the package with this ID alone, as `meant` tells which ones it may mean
abbrev pub Means : (List ℕ → List (List ℕ)) → List ℕ → List ℕ → Type 0
Means meant word id = meant word ≡ id ∷ []
