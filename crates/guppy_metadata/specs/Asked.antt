-- The values of members that are asked for by their names.
use Rattle.std.specs.Prelude.{◌≡◌, ℕ, Bool, true, not, ◌&&◌, ◌⊎◌, List, [], ◌∷◌, Option, None, Some, option_map, slice_get, unwrap_or, codes}
use Rattle.std.specs.List.{AllZip}
use Rattle.std.specs.declared.alloc.Global.{Global}
use Rattle.json.specs.Json.{Json, null, boolean, string}
use Rattle.json.specs.Find.{get}
use Rattle.json.specs.Value.{value_view}
use Rattle.json.specs.declared.value.Value.{Value}
use Rattle.guppy_data.specs.declared.texts.dependency_kind.DependencyKind.{DependencyKind}
use Rattle.guppy_data.specs.declared.texts.dependency_kind.DependencyKind.TheVariants.{Normal, Development, Build}
use Rattle.guppy_metadata.specs.Members.{unless_null, is_among, list_of}

-- the value of the last member of this name, or null where there is none
abbrev pub value_of : List ℕ → Json → Json
value_of name d = unwrap_or (get name d) null

-- each value is that of the member whose name has the same place
abbrev pub AreValuesOf : Json → List (List ℕ) → List (Value Global) → Type 0
AreValuesOf d names values = AllZip (λ name v. value_view v ≡ value_of name d) names values

-- the name stands at this place
abbrev pub IsNameAt : List (List ℕ) → ℕ → List ℕ → Type 0
IsNameAt names place name = slice_get names place ≡ Some name

-- whether no name stands there twice
abbrev pub are_distinct : List (List ℕ) → Bool
are_distinct [] = true
are_distinct (name ∷ names) = not (is_among names name) && are_distinct names

-- this is the text that a value is, where it isn't null
abbrev pub IsTextIn : Json → Option (List ℕ) → Type 0
IsTextIn value text = unless_null value ≡ option_map string text

-- this is the truth value that a value is, or the default where it is null
abbrev pub IsTruthIn : Json → Bool → Bool → Type 0
IsTruthIn value default truth = (unless_null value ≡ Some (boolean truth)) ⊎ ((unless_null value ≡ None) × (truth ≡ default))

-- these are the texts of the list that a value is: none where it is null
abbrev pub AreTextsIn : Json → List (List ℕ) → Type 0
AreTextsIn value texts = (unless_null value ≡ Some (list_of texts)) ⊎ ((unless_null value ≡ None) × (texts ≡ []))

-- the section has this name: the normal one may have none
abbrev pub HasName : Option (List ℕ) → DependencyKind → Type 0
HasName name Normal = (name ≡ None) ⊎ (name ≡ Some (codes "normal"))
HasName name Development = name ≡ Some (codes "dev")
HasName name Build = name ≡ Some (codes "build")
