-- Which texts are among others, found one by one.
use Rattle.std.proofs.Common.{◌≡◌, ◌∙◌, ℕ, ◌+◌, ◌<◌, Bool, true, false, ◌||◌, List, [], ◌∷◌, ◌++◌, map, take, drop, length, get_or, refl, sym, ap, subst, string_bytes, if◌then◌else◌}
use Rattle.std.specs.Prelude.{String}
use Rattle.std.specs.declared.alloc.Global.{Global}
use Rattle.std.specs.List.{list_any}
use Rattle.std.specs.Str.{bytes_eq}
use Rattle.std.proofs.Math.Bool.{or-false}
use Rattle.std.proofs.lemmas.List.{map-append, take-append-drop}
use Rattle.std.proofs.lemmas.List.Folds.{Any-from_list_any, list_any-from_Any, list_any-append}
use Rattle.std.proofs.lemmas.Slice.Eq.{bytes_eq-Decides}
use Rattle.indexmap.specs.IndexSet.{insert_key}
use Rattle.guppy_data.specs.Sorted.{KeepsUpTo}
use Rattle.guppy_data.proofs.ListedNames.{list_any-map}
use Rattle.guppy_metadata.specs.Members.{is_among}
use Rattle.guppy_metadata.proofs.FittingLists.{taken_more}

-- a test of some elements and one more
list_any-push : {X : Type 0} (p : X → Bool) (xs : List X) (x : X) → list_any p (xs ++ x ∷ []) ≡ (list_any p xs || p x)
list_any-push p xs x = list_any-append p xs (x ∷ []) ∙ ap (λ b. list_any p xs || b) (or-false (p x))

-- a test of the first elements, and of one more
pub among_more : {A X : Type 0} (p : X → Bool) (seen : A → X) (items : List A) (k : ℕ) (item other : A) → k < length items → item ≡ get_or items k other
    → list_any p (map seen (take (k + 1) items)) ≡ (list_any p (map seen (take k items)) || p (seen item))
among_more p seen items k item other low is = ap (list_any p) (taken_more seen items k item other low is) ∙ list_any-push p (map seen (take k items)) (seen item)

-- what is among the first is among all
pub among_first : {A X : Type 0} (p : X → Bool) (seen : A → X) (items : List A) (k : ℕ) → list_any p (map seen (take k items)) ≡ true → list_any p (map seen items) ≡ true
among_first p seen items k found =
    let parts : map seen items ≡ map seen (take k items) ++ map seen (drop k items) = ap (map seen) (sym (take-append-drop k items)) ∙ map-append seen (take k items) (drop k items) in
    ap (list_any p) parts ∙ (list_any-append p (map seen (take k items)) (map seen (drop k items)) ∙ ap (λ b. b || list_any p (map seen (drop k items))) found)

-- keys that are seen as texts
module _ {K : Type 0} (seen : K → List ℕ) where
  abbrev pub same_text : K → K → Bool
  same_text a b = bytes_eq (seen a) (seen b)

  abbrev pub in_keys : List K → List ℕ → Bool
  in_keys keys text = list_any (λ key. bytes_eq text (seen key)) keys

  already_in : (keys : List K) (key : K) (text : List ℕ) (same : Bool) → bytes_eq text (seen key) ≡ same → in_keys keys (seen key) ≡ true → in_keys keys text ≡ (in_keys keys text || same)
  already_in keys key text false is found = sym (or-false (in_keys keys text))
  already_in keys key text true is found =
      let text_is : text ≡ seen key = (bytes_eq-Decides text (seen key)).0 is in
      let here : in_keys keys text ≡ true = ap (in_keys keys) text_is ∙ found in
      here ∙ sym (ap (λ b. b || true) here)

  -- a text is among the keys of a set after one is put in where it is that one or was among them
  pub among_inserted : (keys : List K) (key : K) (text : List ℕ) → in_keys (insert_key same_text keys key) text ≡ (in_keys keys text || bytes_eq text (seen key))
  among_inserted keys key text = by (list_any (same_text key) keys) refl
    where
      by : (found : Bool) → list_any (same_text key) keys ≡ found → in_keys (insert_key same_text keys key) text ≡ (in_keys keys text || bytes_eq text (seen key))
      by true found = ap (λ b. in_keys (if b then keys else keys ++ key ∷ []) text) found ∙ already_in keys key text (bytes_eq text (seen key)) refl found
      by false found = ap (λ b. in_keys (if b then keys else keys ++ key ∷ []) text) found ∙ list_any-push (λ k. bytes_eq text (seen k)) keys key

either_way : (a b : Bool) → (a ≡ true → b ≡ true) → (b ≡ true → a ≡ true) → a ≡ b
either_way true b there back = sym (there refl)
either_way false true there back = back refl
either_way false false there back = refl

-- texts of which a set keeps one of each are those of the set
pub among_kept : (all own : List (String Global)) → KeepsUpTo (λ a b. bytes_eq (string_bytes a) (string_bytes b)) all own
    → (text : List ℕ) → is_among (map string_bytes own) text ≡ is_among (map string_bytes all) text
among_kept all own kept text =
    let reads : (xs : List (String Global)) → is_among (map string_bytes xs) text ≡ list_any (λ x. bytes_eq text (string_bytes x)) xs = list_any-map (bytes_eq text) string_bytes in
    either_way _ _
    (λ h. let at = Any-from_list_any _ own (sym (reads own) ∙ h) in
    let there = kept.no_other at.1 (at.0, at.2, at.3) in
    reads all ∙ list_any-from_Any _ all (there.0, at.1, there.1, there.2, at.4))
    (λ h. let at = Any-from_list_any _ all (sym (reads all) ∙ h) in
    let there = kept.each at.1 (at.0, at.2, at.3) in
    let text_is : text ≡ string_bytes at.1 = (bytes_eq-Decides text (string_bytes at.1)).0 at.4 in
    reads own ∙ list_any-from_Any _ own (there.0, there.1, there.2, there.3, subst (λ t. bytes_eq t (string_bytes there.1) ≡ true) (sym text_is) there.4))
