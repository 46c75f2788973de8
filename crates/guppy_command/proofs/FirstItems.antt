-- The first items of a list, and the next one.
use Rattle.std.proofs.Common.{◌≡◌, ◌∙◌, sym, ap, subst, Contains, ℕ, ◌+◌, ◌-◌, ◌<◌, ◌≤◌, List, [], ◌∷◌, ◌++◌, Option, length, map, take, drop, get_or, append_assoc, refl, arith}
use Rattle.std.specs.List.{AllZip, cons_option, filter_map}
use Rattle.std.proofs.lemmas.Grind.{common_steps}
use Rattle.std.proofs.lemmas.List.Elements.{Contains-append_right, filter_map-append}
use Rattle.std.proofs.lemmas.List.{map_push, map-append, take_more, take-append-drop}
use Rattle.indexmap.proofs.SetLemmas.{AllZip-push}

module _ {A B : Type 0} (seen : A → B) (items : List A) (k : ℕ) (item other : A) (low : k < length items) (is : item ≡ get_or items k other) where
  -- what they are seen as
  pub taken_with : map seen (take (k + 1) items) ≡ map seen (take k items) ++ seen item ∷ []
  taken_with = ap (map seen) (take_more items k other low) ∙ map_push seen (take k items) (get_or items k other) ∙ ap (λ i. map seen (take k items) ++ seen i ∷ []) (sym is)

  -- what stands before it, it, and what stands behind it
  pub cut_at : map seen items ≡ map seen (take k items) ++ seen item ∷ map seen (drop (k + 1) items)
  cut_at =
      ap (map seen) (sym (take-append-drop (k + 1) items))
      ∙ map-append seen (take (k + 1) items) (drop (k + 1) items)
      ∙ ap (λ l. l ++ map seen (drop (k + 1) items)) taken_with
      ∙ append_assoc (map seen (take k items)) (seen item ∷ []) (map seen (drop (k + 1) items))

  -- what fits them, and what fits it
  pub fits_with : {C : Type 0} (R : B → C → Type 0) (ys : List C) (y : C) → AllZip R (map seen (take k items)) ys → R (seen item) y → AllZip R (map seen (take (k + 1) items)) (ys ++ y ∷ [])
  fits_with R ys y fit this = rw taken_with (AllZip-push R (map seen (take k items)) ys (seen item) y fit this)

  -- it is one of them all
  pub contains_this : Contains (map seen items) (seen item)
  contains_this = subst (λ (all : List B). Contains all (seen item)) (sym cut_at) (Contains-append_right (map seen (take k items)) (seen item ∷ map seen (drop (k + 1) items)) (seen item) (0, omega arith, refl))

  -- what is made of them, and what is made of it
  pub made_with : {C : Type 0} (h : B → Option C) (o : Option C) → o ≡ h (seen item) → filter_map h (map seen (take (k + 1) items)) ≡ filter_map h (map seen (take k items)) ++ cons_option o []
  made_with h o made = ap (filter_map h) taken_with ∙ filter_map-append h (map seen (take k items)) (seen item ∷ []) ∙ ap (λ p. filter_map h (map seen (take k items)) ++ cons_option p []) (sym made)

-- the first item, and what stands behind it
pub first_and_rest : {X : Type 0} (xs : List X) (x other : X) → 1 ≤ length xs → x ≡ get_or xs 0 other → xs ≡ x ∷ take (length xs - 1) (drop 1 xs)
first_and_rest xs x other some is = grind (arith, common_steps)

-- nothing is seen of no items
pub none_left : {A B : Type 0} (seen : A → B) (items : List A) → length items < 1 → map seen items ≡ []
none_left seen [] none = refl
none_left seen (item ∷ items) none = absurd (omega arith)
