-- What an iterator gives that is known to give a list.
use Rattle.std.proofs.Common.{◌≡◌, ◌∙◌, sym, refl, subst, suc, List, [], ◌∷◌, ◌++◌, arith, Option, None, All}
use Rattle.std.specs.Iterator.{Drains, HoldsAlong}
use Rattle.std.proofs.iter.Yields.{gives_along}
use Rattle.std.proofs.lemmas.Iterator.{YieldsList}
use Rattle.std.proofs.lemmas.Iterator.Consumers.{YieldsList-end}
use Rattle.std.proofs.lemmas.List.{map-id}
use Rattle.std.proofs.lemmas.List.Elements.{All-cons}

All-front : {A : Type 0} (P : A → Type 0) (xs rest : List A) → All P (xs ++ rest) → All P xs
All-front P [] rest all = λ k d h. absurd (omega arith)
All-front P (x ∷ xs) rest all = All-cons P x xs (all 0 x (omega arith)) (All-front P xs rest (λ k d h. all (suc k) d (omega arith)))

module _ {S A : Type 0} (steps : S → Option A → S → Type 0) where
  -- what holds of the list holds of all that is given on the way
  pub holds_along : (P : A → Type 0) (s : S) (ys : List A) → YieldsList steps (λ x. x) s ys → All P ys → HoldsAlong steps s (All P)
  holds_along P s ys e all = gives_along steps (λ (x : A). x) (All P) ys s e.runs
      (λ seen more whole. All-front P seen more (subst (All P) (let same : ys ≡ seen ++ more = rw (← map-id seen) whole in same) all))

  -- what was given to the end is the list
  pub drained : (s : S) (xs ys : List A) → YieldsList steps (λ x. x) s ys → Drains steps s xs → xs ≡ ys
  drained s xs ys e d = sym (map-id xs) ∙ (YieldsList-end e xs d.1.0 d.1.1 None d.0 refl d.1.2).0
