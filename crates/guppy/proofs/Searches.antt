-- What a search through a list tells.
use Rattle.std.proofs.Common.{◌≡◌, ◌↔◌, ℕ, ◌<◌, Bool, true, false, IsTrue, List, [], ◌∷◌, length, get_or, MatchBool, arith, refl, subst}
use Rattle.std.specs.List.{HoldsAt, AllWithin, Any}
use Rattle.std.proofs.lemmas.List.{get_or_default}

-- an element that has P
Any-from_HoldsAt : {A : Type 0} (P : A → Type 0) (xs : List A) (k : ℕ) → k < length xs → HoldsAt P xs k → Any P xs
Any-from_HoldsAt P [] k within h = absurd (omega arith)
Any-from_HoldsAt P (x ∷ xs) k within h = (k, get_or (x ∷ xs) k x, within, get_or_default (x ∷ xs) k (get_or (x ∷ xs) k x) x within, h x)

-- a search that found an element with P, or passed elements without P alone, tells whether some element has P
pub search-tells_Any : {A : Type 0} (P : A → Type 0) (found : Bool) (xs : List A) → MatchBool found ((k : ℕ) × (k < length xs) × HoldsAt P xs k) (AllWithin (λ x. P x → ⊥) xs 0 (length xs)) → IsTrue found ↔ Any P xs
search-tells_Any P true xs h = (λ _. Any-from_HoldsAt P xs h.0 h.1 h.2, λ _. refl)
search-tells_Any P false xs h = (λ e. absurd (let same : false ≡ true = e in cc), λ any. absurd (h any.0 any.1 (omega arith) any.2 (subst P (let same = any.3 in cc) any.4)))
