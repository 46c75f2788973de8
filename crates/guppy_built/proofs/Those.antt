-- Those of a list of which something holds, with one more at its end, and lists as an iterator goes through them.
use Rattle.std.proofs.Common.{List, [], ◌∷◌, ◌++◌, ◌≡◌, ◌∙◌, Bor, map, ap, sym, subst, append_assoc}
use Rattle.std.proofs.lemmas.List.{append-nil, map_push}
use Rattle.guppy_built.specs.Those.{AreThose, none, holds, fails}

module _ {X : Type 0} (P : X → Type 0) where
  one_more : {all those : List X} → AreThose P all those → (x : X) → P x → AreThose P (all ++ x ∷ []) (those ++ x ∷ [])
  one_more none x p = holds x p none
  one_more (holds y q rest) x p = holds y q (one_more rest x p)
  one_more (fails y q rest) x p = fails y q (one_more rest x p)

  none_more : {all those : List X} → AreThose P all those → (x : X) → ¬ P x → AreThose P (all ++ x ∷ []) those
  none_more none x off = fails x off none
  none_more (holds y q rest) x off = holds y q (none_more rest x off)
  none_more (fails y q rest) x off = fails y q (none_more rest x off)

  module _ {A B : Type 0} (seen : A → X) (told : B → X) (all : List A) (a : A) where
    -- one more is told, and as one of those
    pub told_more : (those told_now : List B) (b : B) → AreThose P (map seen all) (map told those) → P (seen a) → told b ≡ seen a → told_now ≡ those ++ b ∷ []
        → AreThose P (map seen (all ++ a ∷ [])) (map told told_now)
    told_more those told_now b h p same pushed =
        let there : map told told_now ≡ map told those ++ seen a ∷ [] = ap (map told) pushed ∙ map_push told those b ∙ ap (λ (x : X). map told those ++ x ∷ []) same in
        subst (λ xs. AreThose P xs (map told told_now)) (sym (map_push seen all a))
        (subst (AreThose P (map seen all ++ seen a ∷ [])) (sym there) (one_more h (seen a) p))

    -- or it isn't
    pub told_less : (those : List X) → AreThose P (map seen all) those → ¬ P (seen a) → AreThose P (map seen (all ++ a ∷ [])) those
    told_less those h off = subst (λ xs. AreThose P xs those) (sym (map_push seen all a)) (none_more h (seen a) off)

module _ {X : Type 0} (all : List X) where
  -- what was given and what is left are all
  pub next_left : (given : List (Bor X)) (x : Bor X) (left behind : List X) → map (λ y. y.now) given ++ left ≡ all → left ≡ x.now ∷ behind
      → map (λ y. y.now) (given ++ x ∷ []) ++ behind ≡ all
  next_left given x left behind h step =
      let front = map (λ (y : Bor X). y.now) given in
      ap (λ (xs : List X). xs ++ behind) (map_push (λ (y : Bor X). y.now) given x) ∙ append_assoc front (x.now ∷ []) behind ∙ ap (λ (xs : List X). front ++ xs) (sym step) ∙ h

  -- where nothing is left, all was given
  pub all_given : (given : List (Bor X)) (left : List X) → map (λ y. y.now) given ++ left ≡ all → left ≡ [] → map (λ y. y.now) given ≡ all
  all_given given left h end =
      let front = map (λ (y : Bor X). y.now) given in
      sym (append-nil front) ∙ ap (λ (xs : List X). front ++ xs) (sym end) ∙ h
