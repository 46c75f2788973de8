-- The values of members that are asked for, where a member is put behind the others.
use Rattle.std.proofs.Common.{inl, inr, ◌≡◌, ◌∙◌, ℕ, zero, suc, ◌+◌, ◌<◌, Bool, true, false, cond, not, ◌&&◌, ◌||◌, ◌⊎◌, List, [], ◌∷◌, map, length, ◌++◌, take, get_or, Option, None, Some, option_and_then, refl, sym, ap, subst, arith}
use Rattle.std.specs.Prelude.{unwrap_or, MatchOption, slice_set, All, position}
use Rattle.std.specs.Borrow.{Bor}
use Rattle.std.specs.List.{position_from}
use Rattle.std.specs.Str.{bytes_eq}
use Rattle.std.specs.declared.alloc.Global.{Global}
use Rattle.std.proofs.Math.Bool.{or-true}
use Rattle.std.proofs.lemmas.Bool.{false≢true}
use Rattle.std.proofs.lemmas.Iterator.Adapters.{position_from-zero}
use Rattle.std.proofs.lemmas.List.Elements.{All-head, All-tail}
use Rattle.std.proofs.lemmas.Option.{none-some, same_Some}
use Rattle.std.proofs.lemmas.Slice.Eq.{bytes_eq-Decides}
use Rattle.json.specs.Json.{Json, null, boolean, number, string, array, object}
use Rattle.json.specs.Find.{get, as_str}
use Rattle.json.specs.Value.{value_view}
use Rattle.json.specs.declared.value.Value.{Value}
use Rattle.guppy_metadata.specs.Asked.{value_of, AreValuesOf, IsNameAt, IsTextIn, IsTruthIn, AreTextsIn, are_distinct}
use Rattle.guppy_metadata.specs.Members.{is_among, unless_null, present, IsText, IsTruth, AreTexts}
use Rattle.guppy_metadata.specs.Told.{IsWith}
use Rattle.guppy_metadata.proofs.ObjectMembers.{differs, kept, put}
use Rattle.guppy_metadata.proofs.Turns.{object_of}

abbrev texts : List (Bor (List ℕ)) → List (List ℕ)
texts names = map (λ n. n.now) names

neither : (a b : Bool) → (a || b) ≡ false → (a ≡ false) × (b ≡ false)
neither true b none = absurd (false≢true (sym none))
neither false b none = (refl, none)

both : (a b : Bool) → (not a && b) ≡ true → (a ≡ false) × (b ≡ true)
both true b all = absurd (false≢true all)
both false b all = (refl, all)

-- a name that stands at a place is among the names
among_at : (names : List (List ℕ)) (place : ℕ) (name : List ℕ) → IsNameAt names place name → is_among names name ≡ true
among_at [] place name at = absurd (none-some name at)
among_at (n ∷ ns) zero name at = ap (λ b. b || is_among ns name) ((bytes_eq-Decides name n).1 (sym (same_Some _ _ at)))
among_at (n ∷ ns) (suc place) name at = ap (λ b. bytes_eq name n || b) (among_at ns place name at) ∙ or-true (bytes_eq name n)

module _ (name : List ℕ) where
  -- the name stands so far behind the place, or isn't among the names
  abbrev IsFound : List (Bor (List ℕ)) → ℕ → Option ℕ → Type 0
  IsFound names start found = MatchOption found (is_among (texts names) name ≡ false) (λ place. (far : ℕ) × (place ≡ start + far) × IsNameAt (texts names) far name)

  found_later : (n : Bor (List ℕ)) (ns : List (Bor (List ℕ))) (start : ℕ) (found : Option ℕ) → bytes_eq name n.now ≡ false → IsFound ns (start + 1) found → IsFound (n ∷ ns) start found
  found_later n ns start None differs none = ap (λ b. b || is_among (texts ns) name) differs ∙ none
  found_later n ns start (Some place) differs at = let further : place ≡ start + suc at.0 = omega (arith, at.1) in (suc at.0, further, at.2)

  found_step : (n : Bor (List ℕ)) (ns : List (Bor (List ℕ))) (start : ℕ) (same : Bool) → bytes_eq name n.now ≡ same → IsFound ns (start + 1) (position_from (λ other. bytes_eq name other.now) (start + 1) ns)
      → IsFound (n ∷ ns) start (cond same (Some start) (position_from (λ other. bytes_eq name other.now) (start + 1) ns))
  found_step n ns start true same later = let here : start ≡ start + 0 = omega arith in (0, here, ap Some (sym ((bytes_eq-Decides name n.now).0 same)))
  found_step n ns start false differs later = found_later n ns start _ differs later

  found_from : (names : List (Bor (List ℕ))) (start : ℕ) → IsFound names start (position_from (λ other. bytes_eq name other.now) start names)
  found_from [] start = refl
  found_from (n ∷ ns) start = found_step n ns start (bytes_eq name n.now) refl (found_from ns (start + 1))

  found_first : (names : List (Bor (List ℕ))) (found : Option ℕ) → IsFound names 0 found → MatchOption found (is_among (texts names) name ≡ false) (λ place. IsNameAt (texts names) place name)
  found_first names None none = none
  found_first names (Some place) at = let here : at.0 ≡ place = omega (arith, at.1) in subst (λ p. IsNameAt (texts names) p name) here at.2

  -- the first place of the name
  pub first_found : (names : List (Bor (List ℕ))) (found : Option ℕ) → found ≡ position (λ other. bytes_eq name other.now) names
      → MatchOption found (is_among (texts names) name ≡ false) (λ place. IsNameAt (texts names) place name)
  first_found names found is = found_first names found (subst (IsFound names 0) (sym (is ∙ position_from-zero _ names)) (found_from names 0))

-- the name of the element at a place
pub at_place : (names : List (Bor (List ℕ))) (place : ℕ) (other : Bor (List ℕ)) (name : List ℕ) → place < length names → bytes_eq (get_or names place other).now name ≡ true → IsNameAt (texts names) place name
at_place [] place other name low same = let none : ⊥ = omega arith in absurd none
at_place (n ∷ ns) zero other name low same = ap Some ((bytes_eq-Decides n.now name).0 same)
at_place (n ∷ ns) (suc place) other name low same = at_place ns place other name (let lower : place < length ns = omega arith in lower) same

-- the first values are those of the first names
pub first_values : (d : Json) (names more : List (List ℕ)) (values : List (Value Global)) → AreValuesOf d (names ++ more) values → AreValuesOf d names (take (length names) values)
first_values d [] more values are = tt
first_values d (n ∷ ns) more [] are = are
first_values d (n ∷ ns) more (v ∷ vs) are = (are.0, first_values d ns more vs are.1)

-- where there are no members, each value is null
pub none_told : (names : List (List ℕ)) (values : List (Value Global)) → length values ≡ length names → All (λ v. value_view v ≡ null) values → AreValuesOf (object_of []) names values
none_told [] [] same all = tt
none_told [] (v ∷ vs) same all = let none : ⊥ = omega arith in absurd none
none_told (n ∷ ns) [] same all = let none : ⊥ = omega arith in absurd none
none_told (n ∷ ns) (v ∷ vs) same all = (All-head (λ v. value_view v ≡ null) v vs all, none_told ns vs (let less : length vs ≡ length ns = omega arith in less) (All-tail (λ v. value_view v ≡ null) v vs all))

module _ (name : List ℕ) (told d e : Json) (adds : IsWith name told d e) where
  same_value : (wanted : List ℕ) → bytes_eq name wanted ≡ false → value_of wanted d ≡ value_of wanted e
  same_value wanted differ = ap (λ o. unwrap_or o null) (kept d e name told adds wanted differ)

  -- a member that isn't asked for changes no value
  pub others_kept : (names : List (List ℕ)) (values : List (Value Global)) → is_among names name ≡ false → AreValuesOf d names values → AreValuesOf e names values
  others_kept [] [] absent are = tt
  others_kept [] (v ∷ vs) absent are = absurd are
  others_kept (n ∷ ns) [] absent are = absurd are
  others_kept (n ∷ ns) (v ∷ vs) absent are =
      let apart = neither (bytes_eq name n) (is_among ns name) absent in (are.0 ∙ same_value n apart.0, others_kept ns vs apart.1 are.1)

  -- a member that is asked for changes the value at its name's place
  pub one_put : (names : List (List ℕ)) (values : List (Value Global)) (place : ℕ) (v : Value Global) → are_distinct names ≡ true → IsNameAt names place name → value_view v ≡ told
      → AreValuesOf d names values → AreValuesOf e names (slice_set values place v)
  one_put [] values place u distinct at is are = absurd (none-some name at)
  one_put (n ∷ ns) [] place u distinct at is are = absurd are
  one_put (n ∷ ns) (v ∷ vs) zero u distinct at is are =
      let here : n ≡ name = same_Some _ _ at in
      let apart = both (is_among ns n) (are_distinct ns) distinct in (
        is ∙ ap (λ o. unwrap_or o null) (put d e name told adds n ((bytes_eq-Decides name n).1 (sym here))),
        others_kept ns vs (subst (λ t. is_among ns t ≡ false) here apart.0) are.1,
      )
  one_put (n ∷ ns) (v ∷ vs) (suc place) u distinct at is are =
      let apart = both (is_among ns n) (are_distinct ns) distinct in
      let other = differs name n (λ same. false≢true (sym apart.0 ∙ among_at ns place n (at ∙ ap Some same))) in
      (are.0 ∙ same_value n other, one_put ns vs place u apart.1 at is are.1)

module _ (d : Json) where
  -- the value at a place is that of the name there
  pub value_at : (names : List (List ℕ)) (values : List (Value Global)) (place : ℕ) (name : List ℕ) (v : Value Global) → AreValuesOf d names values → IsNameAt names place name → v ≡ get_or values place v
      → value_view v ≡ value_of name d
  value_at [] values place name v are at is = absurd (none-some name at)
  value_at (n ∷ ns) [] place name v are at is = absurd are
  value_at (n ∷ ns) (u ∷ us) zero name v are at is = ap value_view is ∙ (are.0 ∙ ap (λ t. value_of t d) (same_Some n name at))
  value_at (n ∷ ns) (u ∷ us) (suc place) name v are at is = value_at ns us place name v are.1 at is

  module _ (name : List ℕ) (value : Json) (is : value ≡ value_of name d) where
    text_there : (text : List ℕ) (found : Option Json) → Some text ≡ as_str (unwrap_or found null) → found ≡ Some (string text)
    text_there text None same = absurd (none-some text (sym same))
    text_there text (Some null) same = absurd (none-some text (sym same))
    text_there text (Some (boolean b)) same = absurd (none-some text (sym same))
    text_there text (Some (number n)) same = absurd (none-some text (sym same))
    text_there text (Some (string s)) same = ap (λ t. Some (string t)) (sym (same_Some text s same))
    text_there text (Some (array js)) same = absurd (none-some text (sym same))
    text_there text (Some (object ms)) same = absurd (none-some text (sym same))

    -- a value that is a text
    pub text_told : (text : List ℕ) → Some text ≡ as_str value → get name d ≡ Some (string text)
    text_told text same = text_there text (get name d) (same ∙ ap as_str is)

    unless_absent : (found : Option Json) → option_and_then unless_null found ≡ unless_null (unwrap_or found null)
    unless_absent None = refl
    unless_absent (Some j) = refl

    value_present : present name d ≡ unless_null value
    value_present = unless_absent (get name d) ∙ ap unless_null (sym is)

    -- a value that is a text where it isn't null
    pub optional_text_told : (text : Option (List ℕ)) → IsTextIn value text → IsText name d text
    optional_text_told text same = value_present ∙ same

    -- a value that is a truth value where it isn't null
    pub truth_told : (default truth : Bool) → IsTruthIn value default truth → IsTruth name d default truth
    truth_told default truth same = subst (λ o. (o ≡ Some (boolean truth)) ⊎ ((o ≡ None) × (truth ≡ default))) (sym value_present) same

    -- a value that is a list of texts where it isn't null
    pub texts_told : (texts : List (List ℕ)) → AreTextsIn value texts → AreTexts name d texts
    texts_told texts (inl is) = inl (value_present ∙ is)
    texts_told texts (inr is) = inr (value_present ∙ is.0, ap (map string) is.1)
