-- Folders that are given to the packages that words mean.
use Rattle.std.proofs.Common.{◌≡◌, ◌∙◌, ap, ℕ, ◌+◌, ◌<◌, List, [], ◌∷◌, ◌++◌, length, map, take, drop, get_or, Bor}
use Rattle.std.proofs.lemmas.List.{map-append}
use Rattle.std.specs.List.{AllZip}
use Rattle.guppy_affected.specs.Folders.{Given}
use Rattle.guppy_command.proofs.FirstItems.{cut_at}
use Rattle.guppy_program.specs.Answer.{AreGiven}
use Rattle.guppy_program.specs.Meant.{Means}

-- a folder and the word for its package
abbrev pub pair_seen : Bor (List ℕ) × Bor (List ℕ) → List ℕ × List ℕ
pair_seen both = (both.0.now, both.1.now)

-- the words
abbrev pub words_in : List (Bor (List ℕ) × Bor (List ℕ)) → List (List ℕ)
words_in also = map (λ both. both.1) (map pair_seen also)

-- the words mean these packages
pub named_of : (meant : List ℕ → List (List ℕ)) (also : List (List ℕ × List ℕ)) (given : List Given) → AreGiven meant also given → AllZip (Means meant) (map (λ both. both.1) also) (map (λ one. one.1) given)
named_of meant [] [] are = tt
named_of meant [] (one ∷ given) are = absurd are
named_of meant (both ∷ also) [] are = absurd are
named_of meant (both ∷ also) (one ∷ given) are = (are.0.1, named_of meant also given are.1)

-- the words before this one, it, and those behind it
pub cut_words : (also : List (Bor (List ℕ) × Bor (List ℕ))) (k : ℕ) (item other : Bor (List ℕ) × Bor (List ℕ)) → k < length also → item ≡ get_or also k other
    → words_in also ≡ words_in (take k also) ++ item.1.now ∷ words_in (drop (k + 1) also)
cut_words also k item other low is = ap (map (λ both. both.1)) (cut_at pair_seen also k item other low is)
    ∙ map-append (λ (both : List ℕ × List ℕ). both.1) (map pair_seen (take k also)) (pair_seen item ∷ map pair_seen (drop (k + 1) also))
