-- Spaces, and the token behind them.
use Rattle.std.proofs.Common.{◌≡◌, ℕ, Bool, true, false, cond, eqb, List, [], ◌∷◌, ◌++◌, Some, None, refl, ap, ap₂, ◌∙◌, subst}
use Rattle.std.specs.Str.{byte}
use Rattle.std.proofs.lemmas.Bool.Decides.{Decides-eqb}
use Rattle.std.proofs.lemmas.Option.{cond_some}
use Rattle.guppy_target.specs.Grammar.{AreSpaces}
use Rattle.guppy_target.specs.Reading.{after_spaces, behind_mark, mark_at}

-- the text is spaces, and then the rest
abbrev pub Spaced : List ℕ → List ℕ → Type 0
Spaced text rest = (spaces : List ℕ) × AreSpaces spaces × (text ≡ spaces ++ rest)

spaced_more : (c : ℕ) (cs rest : List ℕ) (b : Bool) → (b ≡ true → c ≡ byte " ") → Spaced cs rest → Spaced (c ∷ cs) (cond b rest (c ∷ cs))
spaced_more c cs rest true is h = (c ∷ h.0, (is refl, h.1), ap (λ (l : List ℕ). c ∷ l) h.2)
spaced_more c cs rest false is h = ([], tt, refl)

pub spaced : (text : List ℕ) → Spaced text (after_spaces text)
spaced [] = ([], tt, refl)
spaced (c ∷ cs) = spaced_more c cs (after_spaces cs) (eqb c (byte " ")) (Decides-eqb c (byte " ")).0 (spaced cs)

-- no space is first
abbrev pub NoSpace : List ℕ → Type 0
NoSpace [] = Unit {0}
NoSpace (c ∷ cs) = eqb c (byte " ") ≡ false

pub after_spaces_of : (spaces rest : List ℕ) → AreSpaces spaces → NoSpace rest → after_spaces (spaces ++ rest) ≡ rest
after_spaces_of [] [] are n = refl
after_spaces_of [] (c ∷ cs) are n = ap (λ (b : Bool). cond b (after_spaces cs) (c ∷ cs)) n
after_spaces_of (s ∷ ss) rest are n =
    ap (λ (b : Bool). cond b (after_spaces (ss ++ rest)) (s ∷ (ss ++ rest))) ((Decides-eqb s (byte " ")).1 are.0) ∙ after_spaces_of ss rest are.1 n

pub only_spaces : (spaces : List ℕ) → AreSpaces spaces → after_spaces spaces ≡ []
only_spaces [] are = refl
only_spaces (s ∷ ss) are = ap (λ (b : Bool). cond b (after_spaces ss) (s ∷ ss)) ((Decides-eqb s (byte " ")).1 are.0) ∙ only_spaces ss are.1

behind_mark_some : (m : ℕ) (text rest : List ℕ) → behind_mark m text ≡ Some rest → text ≡ m ∷ rest
behind_mark_some m [] rest e = absurd (cc)
behind_mark_some m (c ∷ cs) rest e =
    let is = cond_some (eqb c m) cs rest e in
    ap₂ (λ (x : ℕ) (xs : List ℕ). x ∷ xs) ((Decides-eqb c m).0 is.0) is.1

-- the mark that is read stands behind spaces
pub mark_takes : (m : ℕ) (text rest : List ℕ) → mark_at m text ≡ Some rest → Spaced text (m ∷ rest)
unfolding mark_at
mark_takes m text rest e = subst (λ (t : List ℕ). Spaced text t) (behind_mark_some m (after_spaces text) rest e) (spaced text)

-- the mark that stands behind spaces is read
pub mark_again : (m : ℕ) (text rest : List ℕ) → eqb m (byte " ") ≡ false → Spaced text (m ∷ rest) → mark_at m text ≡ Some rest
unfolding mark_at
mark_again m text rest n h =
    ap (behind_mark m) (ap after_spaces h.2 ∙ after_spaces_of h.0 (m ∷ rest) h.1 n)
    ∙ ap (λ (b : Bool). cond b (Some rest) None) ((Decides-eqb m m).1 refl)

-- where another stands there, it is not
pub mark_other : (m c : ℕ) (text rest : List ℕ) → eqb c (byte " ") ≡ false → eqb c m ≡ false → Spaced text (c ∷ rest) → mark_at m text ≡ None
unfolding mark_at
mark_other m c text rest n o h =
    ap (behind_mark m) (ap after_spaces h.2 ∙ after_spaces_of h.0 (c ∷ rest) h.1 n)
    ∙ ap (λ (b : Bool). cond b (Some rest) None) o

pub mark_nothing : (m : ℕ) (spaces : List ℕ) → AreSpaces spaces → mark_at m spaces ≡ None
unfolding mark_at
mark_nothing m spaces are = ap (behind_mark m) (only_spaces spaces are)
