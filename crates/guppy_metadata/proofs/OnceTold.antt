-- What the members of a JSON object say, they say alone.
use Rattle.std.proofs.Common.{◌≡◌, ◌∙◌, inl, inr, ℕ, Bool, List, [], ◌∷◌, map, Option, None, Some, option_map, option_and_then, refl, sym, ap, codes}
use Rattle.std.specs.Prelude.{unwrap_or, if◌then◌else◌}
use Rattle.std.specs.Str.{bytes_eq}
use Rattle.json.specs.Json.{Json, null, boolean, number, string, array, object, Items, no_items, item}
use Rattle.json.specs.Find.{get, as_str}
use Rattle.json.specs.Value.{items_of}
use Rattle.semver.specs.Identifiers.{comparator_view}
use Rattle.semver.specs.Parse.{req_of}
use Rattle.semver.specs.declared.VersionReq.{VersionReq}
use Rattle.semver.proofs.Numerals.{ok-value}
use Rattle.guppy_data.specs.declared.texts.dependency_kind.DependencyKind.{DependencyKind}
use Rattle.guppy_data.specs.declared.texts.dependency_kind.DependencyKind.TheVariants.{Normal, Development, Build}
use Rattle.guppy_metadata.specs.Dependency.{NamesSection, NamesRequirement}
use Rattle.guppy_metadata.specs.Members.{present, unless_null, IsText, IsTruth, AreItems, AreTexts, list_of}

abbrev text_in : Json → List ℕ
text_in j = unwrap_or (as_str j) []

abbrev text_of : Option Json → List ℕ
text_of None = []
text_of (Some j) = text_in j

text_back : (text : Option (List ℕ)) → option_and_then as_str (option_map string text) ≡ text
text_back None = refl
text_back (Some text) = refl

abbrev truth_of : Bool → Option Json → Bool
truth_of default None = default
truth_of default (Some null) = default
truth_of default (Some (boolean truth)) = truth
truth_of default (Some (number n)) = default
truth_of default (Some (string s)) = default
truth_of default (Some (array js)) = default
truth_of default (Some (object ms)) = default

abbrev listed : Items → List Json
listed no_items = []
listed (item j js) = j ∷ listed js

abbrev items_in : Option Json → List Json
items_in None = []
items_in (Some null) = []
items_in (Some (boolean truth)) = []
items_in (Some (number n)) = []
items_in (Some (string s)) = []
items_in (Some (array js)) = listed js
items_in (Some (object ms)) = []

items_back : (js : List Json) → listed (items_of js) ≡ js
items_back [] = refl
items_back (j ∷ js) = ap (λ js. j ∷ js) (items_back js)

texts_back : (texts : List (List ℕ)) → map text_in (map string texts) ≡ texts
texts_back [] = refl
texts_back (text ∷ texts) = ap (λ ts. text ∷ ts) (texts_back texts)

-- a list has its items alone
pub items_once : (xs ys : List Json) → array (items_of xs) ≡ array (items_of ys) → xs ≡ ys
items_once xs ys same = sym (items_back xs) ∙ (ap (λ j. items_in (Some j)) same ∙ items_back ys)

abbrev section_of : Option (List ℕ) → DependencyKind
section_of None = Normal
section_of (Some text) = if bytes_eq text (codes "dev") then Development else if bytes_eq text (codes "build") then Build else Normal

module _ (d : Json) where
  -- a text
  pub text_once : (name text other : List ℕ) → get name d ≡ Some (string text) → get name d ≡ Some (string other) → text ≡ other
  text_once name text other is also = ap text_of (sym is ∙ also)

  -- a text that there may be
  pub optional_text_once : (name : List ℕ) (text other : Option (List ℕ)) → IsText name d text → IsText name d other → text ≡ other
  optional_text_once name text other is also = sym (text_back text) ∙ (ap (option_and_then as_str) (sym is ∙ also) ∙ text_back other)

  truth_is : (name : List ℕ) (default truth : Bool) → IsTruth name d default truth → truth_of default (present name d) ≡ truth
  truth_is name default truth (inl is) = ap (truth_of default) is
  truth_is name default truth (inr is) = ap (truth_of default) is.0 ∙ sym is.1

  -- a truth value
  pub truth_once : (name : List ℕ) (default truth other : Bool) → IsTruth name d default truth → IsTruth name d default other → truth ≡ other
  truth_once name default truth other is also = sym (truth_is name default truth is) ∙ truth_is name default other also

  items_are : (name : List ℕ) (js : List Json) → AreItems name d js → items_in (present name d) ≡ js
  items_are name js (inl is) = ap items_in is ∙ items_back js
  items_are name js (inr is) = ap items_in is.0 ∙ sym is.1

  -- a list of texts
  pub texts_once : (name : List ℕ) (texts others : List (List ℕ)) → AreTexts name d texts → AreTexts name d others → texts ≡ others
  texts_once name texts others are also =
      let same = sym (items_are name (map string texts) are) ∙ items_are name (map string others) also in
      sym (texts_back texts) ∙ (ap (map text_in) same ∙ texts_back others)

  -- a list of texts that has to be there
  pub list_once : (name : List ℕ) (texts others : List (List ℕ)) → get name d ≡ Some (list_of texts) → get name d ≡ Some (list_of others) → texts ≡ others
  list_once name texts others is also =
      texts_once name texts others (inl (ap (option_and_then unless_null) is)) (inl (ap (option_and_then unless_null) also))

  section_is : (section : DependencyKind) → NamesSection d section → (text : Option (List ℕ)) × IsText (codes "kind") d text × (section_of text ≡ section)
  section_is Normal (inl is) = (None, is, refl)
  section_is Normal (inr is) = (Some (codes "normal"), is, refl)
  section_is Development is = (Some (codes "dev"), is, refl)
  section_is Build is = (Some (codes "build"), is, refl)

  -- a section
  pub section_once : (section other : DependencyKind) → NamesSection d section → NamesSection d other → section ≡ other
  section_once section other is also =
      let one = section_is section is in
      let two = section_is other also in
      sym one.2 ∙ (ap section_of (optional_text_once (codes "kind") one.0 two.0 one.1 two.1) ∙ two.2)

  -- what a requirement's comparators are seen as
  pub requirement_once : (req other : VersionReq) → NamesRequirement d req → NamesRequirement d other
      → map comparator_view req.comparators.items ≡ map comparator_view other.comparators.items
  requirement_once req other is also =
      ok-value _ _ (sym is.2 ∙ (ap req_of (text_once (codes "req") is.0 also.0 is.1 also.1) ∙ also.2))
