-- What a JSON object says by its members.
use Rattle.std.specs.Prelude.{◌≡◌, ◌⊎◌, ℕ, Bool, List, [], Option, Some, None, map, option_map, option_and_then}
use Rattle.std.specs.Borrow.{Bor}
use Rattle.std.specs.List.{AllZip, list_any, list_all}
use Rattle.std.specs.Str.{bytes_eq}
use Rattle.indexmap.specs.IndexSet.{IndexSet, contains_by}
use Rattle.json.specs.Json.{Json, Members, null, boolean, number, string, array, object}
use Rattle.json.specs.Find.{get}
use Rattle.json.specs.Value.{value_view, items_of}
use Rattle.guppy_metadata.specs.declared.object.Object.{Object}

-- the value of an object
abbrev pub data_of : Object → Json
data_of o = value_view o.value.now

abbrev pub unless_null : Json → Option Json
unless_null null = None
unless_null (boolean b) = Some (boolean b)
unless_null (number n) = Some (number n)
unless_null (string s) = Some (string s)
unless_null (array ds) = Some (array ds)
unless_null (object ms) = Some (object ms)

abbrev pub IsObject : Json → Type 0
IsObject d = (members : Members) × (d ≡ object members)

-- it is no object, or one without members
abbrev pub HasNoMembers : Json → Type 0
HasNoMembers d = (name : List ℕ) → get name d ≡ None

-- the member of this name, where there is one that isn't null
abbrev pub present : List ℕ → Json → Option Json
present name d = option_and_then unless_null (get name d)

-- this is the text in the member of this name, where there is one that isn't null
abbrev pub IsText : List ℕ → Json → Option (List ℕ) → Type 0
IsText name d text = present name d ≡ option_map string text

-- this is the truth value in the member of this name, or the default where there is none
abbrev pub IsTruth : List ℕ → Json → Bool → Bool → Type 0
IsTruth name d default truth = (present name d ≡ Some (boolean truth)) ⊎ ((present name d ≡ None) × (truth ≡ default))

-- whether the text is one of these
abbrev pub is_among : List (List ℕ) → List ℕ → Bool
is_among texts text = list_any (bytes_eq text) texts

-- whether each text that is wanted is one of these
abbrev pub are_among : List (List ℕ) → List (List ℕ) → Bool
are_among texts wanted = list_all (is_among texts) wanted

-- whether the text is in the set
abbrev pub is_in_set : {S : Type 0} → IndexSet (Bor (List ℕ)) S → List ℕ → Bool
is_in_set set text = contains_by (λ key. bytes_eq text key.now) set

-- the list whose items these are, each as R says
abbrev pub IsListOf : {X : Type 0} → (Json → X → Type 0) → Json → List X → Type 0
IsListOf R d xs = (items : List Json) × (d ≡ array (items_of items)) × AllZip R items xs

-- the list of these texts
abbrev pub list_of : List (List ℕ) → Json
list_of texts = array (items_of (map string texts))

-- it is a list of texts
abbrev pub IsListOfTexts : Json → Type 0
IsListOfTexts d = (texts : List (List ℕ)) × (d ≡ list_of texts)

-- these are the items of the list in the member of this name; none where there is no list
abbrev pub AreItems : List ℕ → Json → List Json → Type 0
AreItems name d items = (present name d ≡ Some (array (items_of items)))
    ⊎ ((present name d ≡ None) × (items ≡ []))

-- these are the texts of the list in the member of this name; none where there is no list
abbrev pub AreTexts : List ℕ → Json → List (List ℕ) → Type 0
AreTexts name d texts = AreItems name d (map string texts)
