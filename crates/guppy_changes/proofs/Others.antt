-- Those of a list that aren't kept.
use Rattle.std.proofs.Common.{◌≡◌, ◌∙◌, ⊎_elim, sym, ap, subst, ℕ, ◌+◌, ◌<◌, List, [], ◌∷◌, ◌++◌, length, map, take, get_or, Contains}
use Rattle.std.specs.Prelude.{◌↔◌}
use Rattle.std.proofs.lemmas.List.{map_push}
use Rattle.guppy_changes.specs.Marks.{Mark}
use Rattle.guppy_changes.specs.Changes.{State, IsMarked, IsUnchanged, AreOthers, none, fails, holds}
use Rattle.guppy_changes.specs.Missing.{AreDiffering, IsKept}
use Rattle.guppy_changes.specs.Shown.{Marked, AreMarks}
use Rattle.guppy_data.proofs.Mapped.{one_more_mapped}

module _ {X : Type 0} (P : X → Type 0) where
  others_new : {all others : List X} → AreOthers P all others → (x : X) → ¬ P x → AreOthers P (all ++ x ∷ []) (others ++ x ∷ [])
  others_new none x off = fails x off none
  others_new (fails y p rest) x off = fails y p (others_new rest x off)
  others_new (holds y p rest) x off = holds y p (others_new rest x off)

  others_same : {all others : List X} → AreOthers P all others → (x : X) → P x → AreOthers P (all ++ x ∷ []) others
  others_same none x on = holds x on none
  others_same (fails y p rest) x on = fails y p (others_same rest x on)
  others_same (holds y p rest) x on = holds y p (others_same rest x on)

  module _ {A B : Type 0} (seen : A → X) (told : B → X) (all : List A) (i : ℕ) (a : A) (below : i < length all) (is : a ≡ get_or all i a) where
    -- one more that isn't kept, which is told
    pub next_other : (those more : List B) (b : B) → more ≡ those ++ b ∷ [] → told b ≡ seen a → AreOthers P (map seen (take i all)) (map told those) → ¬ P (seen a) → AreOthers P (map seen (take (i + 1) all)) (map told more)
    next_other those more b pushed same h off =
        let there : map told more ≡ map told those ++ seen a ∷ [] = ap (map told) pushed ∙ map_push told those b ∙ ap (λ (x : X). map told those ++ x ∷ []) same in
        subst (λ xs. AreOthers P xs (map told more)) (sym (one_more_mapped seen all i a below is))
        (subst (AreOthers P (map seen (take i all) ++ seen a ∷ [])) (sym there) (others_new h (seen a) off))

    -- or one that is
    pub next_kept : (those : List X) → AreOthers P (map seen (take i all)) those → P (seen a) → AreOthers P (map seen (take (i + 1) all)) those
    next_kept those h on = subst (λ xs. AreOthers P xs those) (sym (one_more_mapped seen all i a below is)) (others_same h (seen a) on)

-- the same where the same holds
pub others_along : {X : Type 0} {P Q : X → Type 0} → ((x : X) → P x ↔ Q x) → {all others : List X} → AreOthers P all others → AreOthers Q all others
others_along same none = none
others_along same (fails x off rest) = fails x (λ q. off ((same x).1 q)) (others_along same rest)
others_along same (holds x on rest) = holds x ((same x).0 on) (others_along same rest)

module _ (before now : State) (xs ys : List Marked) (ids : List (List ℕ)) (here : AreMarks before xs) (there : AreMarks now ys) (d : AreDiffering xs ys ids) (id : List ℕ) where
  kept_marks : ¬ Contains ids id → (mark : Mark) → IsMarked before id mark ↔ IsMarked now id mark
  kept_marks absent mark = (
    λ m. (there id mark).0 (⊎_elim (λ h. h) (λ h. absurd (absent h)) (d.here (id, mark) ((here id mark).1 m))),
    λ m. (here id mark).0 (⊎_elim (λ h. h) (λ h. absurd (absent h)) (d.there (id, mark) ((there id mark).1 m))),
  )

  unchanged_marks : ((mark : Mark) → IsMarked before id mark ↔ IsMarked now id mark) → Contains ids id → ⊥
  unchanged_marks same h =
      let one = d.only id h in
      let at : (mark : Mark) → IsMarked before one.0.0 mark ↔ IsMarked now one.0.0 mark = subst (λ (k : List ℕ). (mark : Mark) → IsMarked before k mark ↔ IsMarked now k mark) (sym one.1) same in
      ⊎_elim (λ (inside, outside). outside ((there one.0.0 one.0.1).1 ((at one.0.1).0 ((here one.0.0 one.0.1).0 inside))))
      (λ (inside, outside). outside ((here one.0.0 one.0.1).1 ((at one.0.1).1 ((there one.0.0 one.0.1).0 inside)))) one.2

  -- a package is kept where it is unchanged
  pub kept_unchanged : IsKept before.graph.packages ids id ↔ IsUnchanged before now id
  kept_unchanged = (λ (known, absent). (known, kept_marks absent), λ (known, same). (known, unchanged_marks same))
