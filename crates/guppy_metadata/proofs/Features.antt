-- Features named one by one.
use Rattle.std.proofs.Common.{ℕ, zero, suc, ◌+◌, ◌<◌, Bool, true, false, List, [], ◌∷◌, ◌++◌, ◌≡◌, ◌∙◌, String, Vec, take, length, get_or, refl, sym, ap, subst, if◌then◌else◌, arith}
use Rattle.std.specs.declared.alloc.Global.{Global}
use Rattle.std.specs.Borrow.{Bor}
use Rattle.std.specs.List.{AllZip}
use Rattle.std.specs.Str.{bytes_eq}
use Rattle.std.specs.String.{string_bytes, string_eq}
use Rattle.indexmap.specs.IndexMap.{insert_entry}
use Rattle.json.specs.Json.{Json, null, boolean, number, string, array, object, Members, no_members}
use Rattle.json.specs.Value.{value_view, members_view}
use Rattle.json.specs.declared.value.Value.{Value}
use Rattle.json.specs.declared.value.Value.TheVariants.{Object}
use Rattle.json.proofs.Trees.{view-Object}
use Rattle.guppy_data.specs.declared.texts.named_feature.NamedFeatureDep.{NamedFeatureDep}
use Rattle.guppy_metadata.specs.Fault.{NoneIs}
use Rattle.guppy_metadata.specs.Feature.{IsNamedFeature, AreFeatures, AreListsOfTexts, once_behind, each_once}
use Rattle.guppy_metadata.specs.Members.{list_of, IsListOfTexts}
use Rattle.guppy_metadata.specs.declared.fault.Misfit.{Misfit}
use Rattle.guppy_metadata.proofs.FittingLists.{take_with}
use Rattle.guppy_metadata.proofs.Refused.{handed}

-- one more member is put in its place
once_behind-push : (seen : List (List ℕ × Json)) (ms : List (Bor (List ℕ) × Value Global)) (m : Bor (List ℕ) × Value Global)
    → once_behind seen (members_view (ms ++ m ∷ [])) ≡ insert_entry bytes_eq (once_behind seen (members_view ms)) m.0.now (value_view m.1)
once_behind-push seen [] m = refl
once_behind-push seen (x ∷ ms) m = once_behind-push (insert_entry bytes_eq seen x.0.now (value_view x.1)) ms m

same_named : (e : List ℕ × Json) (f g : String Global × Vec NamedFeatureDep Global) (name : List ℕ) (value : Json) → IsNamedFeature e f → IsNamedFeature (name, value) g → IsNamedFeature (e.0, value) (f.0, g.1)
same_named e f g name value old new = record { name = old.name; texts = new.texts; texts_are = new.texts_are; switches_on = new.switches_on }

-- a member and its feature, each put in its place
fits_inserted : (es : List (List ℕ × Json)) (fs : List (String Global × Vec NamedFeatureDep Global)) (name : List ℕ) (value : Json) (g : String Global × Vec NamedFeatureDep Global)
    → AllZip IsNamedFeature es fs → IsNamedFeature (name, value) g → AllZip IsNamedFeature (insert_entry bytes_eq es name value) (insert_entry string_eq fs g.0 g.1)
fits_inserted [] [] name value g fit is = (is, tt)
fits_inserted [] (f ∷ fs) name value g fit is = absurd fit
fits_inserted (e ∷ es) [] name value g fit is = absurd fit
fits_inserted (e ∷ es) (f ∷ fs) name value g fit is = by (bytes_eq name e.0) refl (fits_inserted es fs name value g fit.1 is)
  where
    same_test : string_eq g.0 f.0 ≡ bytes_eq name e.0
    same_test = ap (λ text. bytes_eq text (string_bytes f.0)) is.name ∙ ap (bytes_eq name) fit.0.name

    Fits : Bool → Bool → Type 0
    Fits here there = AllZip IsNamedFeature (if here then (e.0, value) ∷ es else e ∷ insert_entry bytes_eq es name value) (if there then (f.0, g.1) ∷ fs else f ∷ insert_entry string_eq fs g.0 g.1)

    by : (same : Bool) → bytes_eq name e.0 ≡ same → AllZip IsNamedFeature (insert_entry bytes_eq es name value) (insert_entry string_eq fs g.0 g.1) → Fits (bytes_eq name e.0) (string_eq g.0 f.0)
    by true same rest = subst (λ b. Fits b (string_eq g.0 f.0)) (sym same) (subst (Fits true) (sym (same_test ∙ same)) (same_named e f g name value fit.0 is, fit.1))
    by false same rest = subst (λ b. Fits b (string_eq g.0 f.0)) (sym same) (subst (Fits false) (sym (same_test ∙ same)) (fit.0, rest))

-- the features of the first members, and of one more
pub named_more : (ms : List (Bor (List ℕ) × Value Global)) (k : ℕ) (m other : Bor (List ℕ) × Value Global) (fs : List (String Global × Vec NamedFeatureDep Global)) (g : String Global × Vec NamedFeatureDep Global)
    → k < length ms → m ≡ get_or ms k other → AllZip IsNamedFeature (each_once (members_view (take k ms))) fs → IsNamedFeature (m.0.now, value_view m.1) g
    → AllZip IsNamedFeature (each_once (members_view (take (k + 1) ms))) (insert_entry string_eq fs g.0 g.1)
named_more ms k m other fs g low at fit is =
    let taken = ap (λ l. each_once (members_view l)) (take_with ms k m other low at) ∙ once_behind-push [] (take k ms) m in
    subst (λ es. AllZip IsNamedFeature es (insert_entry string_eq fs g.0 g.1)) (sym taken) (fits_inserted (each_once (members_view (take k ms))) fs m.0.now (value_view m.1) g fit is)

lists_push : (ms : List (Bor (List ℕ) × Value Global)) (m : Bor (List ℕ) × Value Global) → AreListsOfTexts (members_view ms) → IsListOfTexts (value_view m.1) → AreListsOfTexts (members_view (ms ++ m ∷ []))
lists_push [] m are is = (is, tt)
lists_push (x ∷ ms) m are is = (are.0, lists_push ms m are.1 is)

-- the first members are lists of texts, and so is one more
pub lists_more : (ms : List (Bor (List ℕ) × Value Global)) (k : ℕ) (m other : Bor (List ℕ) × Value Global) → k < length ms → m ≡ get_or ms k other
    → AreListsOfTexts (members_view (take k ms)) → IsListOfTexts (value_view m.1) → AreListsOfTexts (members_view (take (k + 1) ms))
lists_more ms k m other low at are is = rw (take_with ms k m other low at) (lists_push (take k ms) m are is)

-- the list of texts that the member at a place is
list_at : (ms : List (Bor (List ℕ) × Value Global)) (k : ℕ) (other : Bor (List ℕ) × Value Global) → k < length ms → AreListsOfTexts (members_view ms) → IsListOfTexts (value_view (get_or ms k other).1)
list_at [] k other low are = absurd (omega arith)
list_at (m ∷ ms) zero other low are = are.0
list_at (m ∷ ms) (suc k) other low are = list_at ms k other (omega arith) are.1

members_in : Json → Members
members_in null = no_members
members_in (boolean b) = no_members
members_in (number n) = no_members
members_in (string s) = no_members
members_in (array js) = no_members
members_in (object ms) = ms

-- an object in memory, whose members are looked at one after the other
module _ (value : Value Global) (v : Vec (Bor (List ℕ) × Value Global) Global) (ms : List (Bor (List ℕ) × Value Global)) (is_object : value ≡ Object v) (are : ms ≡ v.items) where
  pub object_is : value_view value ≡ object (members_view ms)
  object_is = ap value_view is_object ∙ (view-Object v ∙ ap (λ ms. object (members_view ms)) (sym are))

  -- where one of its members is no list of texts, it is none of features
  pub features_refused : (k : ℕ) (m other : Bor (List ℕ) × Value Global) → k < length ms → m ≡ get_or ms k other → (f e : Misfit) → e ≡ f
      → NoneIs (λ texts. value_view m.1 ≡ list_of texts) f → NoneIs (AreFeatures (value_view value)) e
  unfolding members_in
  features_refused k m other low at f e is none =
      handed (AreFeatures (value_view value)) (λ texts. value_view m.1 ≡ list_of texts) f e is (λ features named.
      let same : members_view ms ≡ named.members = ap members_in (sym object_is ∙ named.members_are) in
      let list = list_at ms k other low (subst AreListsOfTexts (sym same) named.lists) in
      (list.0, ap (λ m. value_view m.1) at ∙ list.1)) none
