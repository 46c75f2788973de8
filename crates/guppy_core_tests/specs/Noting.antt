-- What a buffered filter does that notes what it is asked, and hands links back at one question.
use Rattle.std.specs.Prelude.{◌≡◌, ◌≢◌, ◌⊎◌, ℕ, ◌<◌, List, [], ◌∷◌, ◌++◌, length, Option, MatchOption}

-- The question is noted behind the earlier ones, of which there are fewer than the limit. At the one
-- question the links come back, at any other none. Where an error is answered, memory for the note may
-- have been refused.
abbrev pub Says : {Q : Type 0} → (at : Q) (links : List ℕ) (limit : ℕ) (earlier : List Q)
    → Q → Option (List ℕ) → List Q → Type 0
Says at links limit earlier question answer noted =
    MatchOption answer ((noted ≡ earlier) ⊎ (noted ≡ earlier ++ question ∷ []))
    (λ handed. (noted ≡ earlier ++ question ∷ []) × (length earlier < limit)
    × (question ≡ at → handed ≡ links)
    × (question ≢ at → handed ≡ []))
