-- Lists in memory whose items are texts, looked at one after the other.
use Rattle.std.proofs.Common.{◌≡◌, ◌∙◌, ℕ, ◌+◌, ◌<◌, ◌≤◌, List, [], ◌∷◌, ◌++◌, Vec, map, take, length, get_or, slice_get, Option, None, Some, refl, sym, ap, subst}
use Rattle.std.specs.Borrow.{Bor}
use Rattle.std.specs.List.{AllZip}
use Rattle.std.specs.Option.{option_copied, option_or}
use Rattle.std.proofs.lemmas.List.{map_push, take_all}
use Rattle.std.proofs.lemmas.Option.{none-some}
use Rattle.json.specs.Json.{Json, string, array}
use Rattle.json.specs.Value.{items_of, value_view}
use Rattle.json.specs.declared.value.Value.{Value}
use Rattle.json.specs.declared.value.Value.TheVariants.{Array}
use Rattle.json.proofs.Trees.{view-Array}
use Rattle.guppy_metadata.specs.Fault.{LacksMemory, NoneIs}
use Rattle.guppy_metadata.specs.Members.{IsListOf, list_of}
use Rattle.guppy_metadata.specs.declared.fault.Misfit.{Misfit}
use Rattle.guppy_metadata.proofs.FittingLists.{taken_more}
use Rattle.guppy_metadata.proofs.WrongItems.{no_list}

abbrev IsTextItem : Json → List ℕ → Type 0
IsTextItem j text = j ≡ string text

texts_fit : (texts : List (List ℕ)) → AllZip IsTextItem (map string texts) texts
texts_fit [] = tt
texts_fit (text ∷ texts) = (refl, texts_fit texts)

-- the first items are texts, and so is the next
pub next_text : {A : Type 0} (items : List (Value A)) (k : ℕ) (item other : Value A) (texts : List (List ℕ)) (text : List ℕ) → k < length items → item ≡ get_or items k other
    → map value_view (take k items) ≡ map string texts → value_view item ≡ string text → map value_view (take (k + 1) items) ≡ map string (texts ++ text ∷ [])
next_text items k item other texts text low at same is =
    taken_more value_view items k item other low at ∙ (ap (λ js. js ++ value_view item ∷ []) same ∙ (ap (λ j. map string texts ++ j ∷ []) is ∙ sym (map_push string texts text)))

-- the first text stays the first where one more comes, and is that one where there was none
pub still_first : (texts : List (List ℕ)) (first : Option (Bor (List ℕ))) (text : Bor (List ℕ)) → slice_get texts 0 ≡ option_copied first
    → slice_get (texts ++ text.now ∷ []) 0 ≡ option_copied (option_or first (Some text))
still_first [] None text is = refl
still_first [] (Some t) text is = absurd (none-some t.now is)
still_first (t ∷ texts) None text is = absurd (none-some t (sym is))
still_first (t ∷ texts) (Some first) text is = is

-- the first of texts, and the others
pub first_and_others : (texts : List (List ℕ)) (first : List ℕ) → slice_get texts 0 ≡ Some first → (others : List (List ℕ)) × (texts ≡ first ∷ others)
first_and_others [] first is = absurd (none-some first is)
first_and_others (t ∷ texts) first is = (texts, cc)

module _ {A : Type 0} (value : Value A) (v : Vec (Value A) A) (items : List (Value A)) (is_list : value ≡ Array v) (are : items ≡ v.items) where
  list_is : value_view value ≡ array (items_of (map value_view items))
  list_is = ap value_view is_list ∙ (view-Array v ∙ ap (λ vs. array (items_of (map value_view vs))) (sym are))

  -- where each item was seen to be a text, it is the list of these
  pub are_texts : (k : ℕ) (texts : List (List ℕ)) → length items ≤ k → map value_view (take k items) ≡ map string texts → value_view value ≡ list_of texts
  are_texts k texts past same = list_is ∙ ap (λ js. array (items_of js)) (ap (map value_view) (sym (take_all k items past)) ∙ same)

  -- where an item is no text, it is no list of texts
  pub no_texts : (k : ℕ) (this other : Value A) → k < length items → this ≡ get_or items k other → (f e : Misfit) → e ≡ f
      → NoneIs (λ text. value_view this ≡ string text) f → NoneIs (λ texts. value_view value ≡ list_of texts) e
  no_texts k this other low at f e is none other_fault texts same =
      no_list IsTextItem value_view items k this other low at (none (λ lacks. other_fault (subst LacksMemory (sym is) lacks))) texts
      (subst (λ list. IsListOf IsTextItem list texts) (sym same ∙ list_is) (map string texts, refl, texts_fit texts))
