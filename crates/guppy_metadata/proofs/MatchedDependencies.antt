-- The declared dependencies that were resolved to one, from the first of them on, and its usages.
use Rattle.std.proofs.Common.{◌≡◌, ◌∙◌, Bool, true, false, ◌&&◌, cond, List, [], ◌∷◌, filter, None, Some, IfSome, slice_get, refl, sym, ap, subst}
use Rattle.std.specs.List.{list_any}
use Rattle.std.proofs.lemmas.Option.{none-some}
use Rattle.std.specs.Prelude.{unwrap_or}
use Rattle.guppy_metadata.specs.declared.types.Declared.{Declared}
use Rattle.guppy_metadata.specs.declared.types.Resolved.{Resolved}
use Rattle.guppy_metadata.specs.declared.types.Usage.{Usage}
use Rattle.guppy_metadata.specs.declared.types.Package.{Package}
use Rattle.guppy_metadata.specs.Fits.{fits, same_usage, is_matched, are_matched}

module _ {A : Type 0} (p : A → Bool) where
  -- of a list with no first item a test picks nothing
  pub none_picked : (xs : List A) → None ≡ slice_get xs 0 → filter p xs ≡ []
  none_picked [] is = refl
  none_picked (y ∷ xs) is = absurd (none-some y is)

  -- what a test picks of a list that begins with what it picks
  pub picked_first : (xs : List A) (x : A) → Some x ≡ slice_get xs 0 → IfSome (slice_get xs 0) (λ first. p first ≡ true) → (others : List A) × (filter p xs ≡ x ∷ others)
  picked_first [] x is picks = absurd (subst (λ o. IfSome o (λ _. ⊥)) (sym is) tt)
  picked_first (y ∷ xs) x is picks = (filter p xs, ap (λ b. cond b (y ∷ filter p xs) (filter p xs)) picks ∙ ap (λ o. unwrap_or o y ∷ filter p xs) (sym is))

  module _ (q : A → Bool) where
    any_picked : (xs : List A) → list_any (λ x. q x && p x) xs ≡ list_any q (filter p xs)
    any_picked [] = refl
    any_picked (x ∷ xs) = by (p x) (q x) refl refl (any_picked xs)
      where
        by : (picks passes : Bool) → p x ≡ picks → q x ≡ passes → list_any (λ x. q x && p x) xs ≡ list_any q (filter p xs) → list_any (λ x. q x && p x) (x ∷ xs) ≡ list_any q (filter p (x ∷ xs))
        by true true picks passes behind = rw (picks, passes) refl
        by true false picks passes behind = rw (picks, passes) behind
        by false true picks passes behind = rw (picks, passes) behind
        by false false picks passes behind = rw (picks, passes) behind

    any_alike : (xs ys : List A) → filter p xs ≡ filter p ys → list_any (λ x. q x && p x) xs ≡ list_any (λ x. q x && p x) ys
    any_alike xs ys same = any_picked xs ∙ (ap (list_any q) same ∙ sym (any_picked ys))

-- usages are matched alike where the same dependencies were resolved so
matched_alike : (asking : Package) (resolved : Resolved) (needed : Package) (xs ys : List Declared) → filter (fits asking resolved needed) xs ≡ filter (fits asking resolved needed) ys
    → (usages : List Usage) → are_matched asking resolved needed xs usages ≡ are_matched asking resolved needed ys usages
matched_alike asking resolved needed xs ys same [] = refl
matched_alike asking resolved needed xs ys same (usage ∷ usages) =
    ap (λ b. b && are_matched asking resolved needed xs usages) (any_alike (fits asking resolved needed) (λ x. same_usage x usage) xs ys same)
    ∙ ap (λ b. is_matched asking resolved needed ys usage && b) (matched_alike asking resolved needed xs ys same usages)

-- the dependencies from the first on that was resolved so
module _ (asking : Package) (resolved : Resolved) (needed : Package) (rest given all : List Declared)
    (picked : filter (fits asking resolved needed) rest ≡ filter (fits asking resolved needed) given) (are : given ≡ all) where
  pub whole : filter (fits asking resolved needed) rest ≡ filter (fits asking resolved needed) all
  whole = picked ∙ ap (filter (fits asking resolved needed)) are

  -- match the usages that all match
  pub matched_whole : (usages own : List Usage) → usages ≡ own → are_matched asking resolved needed rest usages ≡ are_matched asking resolved needed all own
  matched_whole usages own same = matched_alike asking resolved needed rest all whole usages ∙ ap (are_matched asking resolved needed all) same
