-- Items of a list that are replaced one after another.
use Rattle.std.proofs.Common.{◌≡◌, ◌∙◌, sym, ap, subst, arith, ℕ, suc, ◌+◌, ◌<◌, List, [], ◌∷◌, ◌++◌, length, take, drop, get_or, slice_set, add-one, drop-cons}
use Rattle.std.specs.List.{AllZip}
use Rattle.std.proofs.lemmas.List.{take_more, take_more_set, drop-set-lt}
use Rattle.std.proofs.lemmas.List.Elements.{AllZip-push}

module _ {X : Type 0} (R : X → X → Type 0) (old new : List X) (i : ℕ) (x y : X) (low : i < length new) (long : length new ≡ length old)
    (is : x ≡ get_or new i x) (rest : drop i new ≡ drop i old) where
  both : get_or new i x ∷ drop (suc i) new ≡ get_or old i x ∷ drop (suc i) old
  both =
      let low_old : i < length old = omega (arith, low, long) in
      sym (drop-cons new i x low) ∙ (rest ∙ drop-cons old i x low_old)

  abbrev head_of : List X → X
  head_of [] = x
  head_of (z ∷ zs) = z

  abbrev tail_of : List X → List X
  tail_of [] = []
  tail_of (z ∷ zs) = zs

  -- what was related so far, and this one
  pub one_more : R x y → AllZip R (take i old) (take i new) → AllZip R (take (i + 1) old) (take (i + 1) (slice_set new i y))
  one_more this done =
      let low_old : i < length old = omega (arith, low, long) in
      let same : get_or old i x ≡ x = sym (is ∙ ap head_of both) in
      let front : take (i + 1) old ≡ take i old ++ x ∷ [] = take_more old i x low_old ∙ ap (λ z. take i old ++ z ∷ []) same in
      subst (λ l. AllZip R l (take (i + 1) (slice_set new i y))) (sym front)
      (subst (AllZip R (take i old ++ x ∷ [])) (sym (take_more_set new i y low)) (AllZip-push R (take i old) (take i new) x y done this))

  -- what is still to come is as it was
  pub rest_same : drop (i + 1) (slice_set new i y) ≡ drop (i + 1) old
  rest_same = drop-set-lt (i + 1) new i y (omega arith) ∙ (ap (λ n. drop n new) (add-one i) ∙ (ap tail_of both ∙ sym (ap (λ n. drop n old) (add-one i))))

  -- and what is replaced was the same
  pub item_same : x ≡ get_or old i x
  item_same = is ∙ ap head_of both
