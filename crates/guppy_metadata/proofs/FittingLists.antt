-- Lists whose items fit place by place, made item by item.
use Rattle.std.proofs.Common.{◌≡◌, ◌∙◌, ℕ, ◌+◌, ◌<◌, ◌≤◌, Bool, true, false, List, [], ◌∷◌, ◌++◌, filter, map, take, length, get_or, slice_get, Option, Some, IfSome, IsSomeAnd, refl, sym, ap, subst}
use Rattle.std.specs.List.{AllZip}
use Rattle.std.proofs.lemmas.List.{map_push, take_more, take_all}
use Rattle.std.proofs.lemmas.Option.{slice_get_read}
use Rattle.indexmap.proofs.SetLemmas.{AllZip-push, filter_keep, filter_skip}
use Rattle.json.specs.Json.{Json, array}
use Rattle.json.specs.Value.{items_of, value_view}
use Rattle.json.specs.declared.value.Value.{Value}
use Rattle.guppy_metadata.specs.Members.{IsListOf}

-- the first items and the next one
pub take_with : {A : Type 0} (items : List A) (k : ℕ) (item other : A) → k < length items → item ≡ get_or items k other → take (k + 1) items ≡ take k items ++ item ∷ []
take_with items k item other low is = take_more items k other low ∙ ap (λ v. take k items ++ v ∷ []) (sym is)

-- what the first items are seen as, and the next one
pub taken_more : {A B : Type 0} (seen : A → B) (items : List A) (k : ℕ) (item other : A) → k < length items → item ≡ get_or items k other
    → map seen (take (k + 1) items) ≡ map seen (take k items) ++ seen item ∷ []
taken_more seen items k item other low is = ap (map seen) (take_with items k item other low is) ∙ map_push seen (take k items) item

-- what the first items are seen as fits, and so does the next
pub next_fits : {A B C : Type 0} (R : B → C → Type 0) (seen : A → B) (items : List A) (k : ℕ) (item other : A) (ys : List C) (y : C) → k < length items → item ≡ get_or items k other
    → AllZip R (map seen (take k items)) ys → R (seen item) y → AllZip R (map seen (take (k + 1) items)) (ys ++ y ∷ [])
next_fits R seen items k item other ys y low is fit this = rw (taken_more seen items k item other low is) (AllZip-push R _ _ _ _ fit this)

-- of the first items those that a test picks, and the next one, which it picks
pub picked_more : {A : Type 0} (p : A → Bool) (items : List A) (k : ℕ) (item other : A) → k < length items → item ≡ get_or items k other → p item ≡ true
    → filter p (take (k + 1) items) ≡ filter p (take k items) ++ item ∷ []
picked_more p items k item other low is picks = ap (filter p) (take_with items k item other low is) ∙ filter_keep p (take k items) item picks

-- the same where it doesn't pick the next one
pub passed_over : {A : Type 0} (p : A → Bool) (items : List A) (k : ℕ) (item other : A) → k < length items → item ≡ get_or items k other → p item ≡ false
    → filter p (take (k + 1) items) ≡ filter p (take k items)
passed_over p items k item other low is passes = ap (filter p) (take_with items k item other low is) ∙ filter_skip p (take k items) item passes

-- where a test picks the first item, it picks the one at this place, which is the first
pub first_picked : {A : Type 0} (p : A → Bool) (items : List A) (k : ℕ) (item : A) → k < length items → item ≡ get_or items k item → k ≡ 0
    → IfSome (slice_get items 0) (λ first. p first ≡ true) → p item ≡ true
first_picked p items k item low is zero picks =
    subst (λ o. IfSome o (λ first. p first ≡ true)) (slice_get_read items (length items) 0 item refl (subst (λ i. i < length items) zero low) (subst (λ i. item ≡ get_or items i item) zero is)) picks

-- a list that is told, of which each item was looked at, is that of what fits its items
pub whole_list : {A X : Type 0} (R : Json → X → Type 0) (told : Option Json) (all items : List (Value A)) → told ≡ Some (array (items_of (map value_view all))) → items ≡ all
    → (k : ℕ) (xs : List X) → length items ≤ k → AllZip R (map value_view (take k items)) xs → IsSomeAnd told (λ list. IsListOf R list xs)
whole_list R told all items list_is are k xs past fit =
    subst (λ o. IsSomeAnd o (λ list. IsListOf R list xs)) (sym (list_is ∙ ap (λ vs. Some (array (items_of (map value_view vs)))) (sym are))) (map value_view items, refl, rw (take_all k items past) at fit)
