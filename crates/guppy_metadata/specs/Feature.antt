-- Named features.
use Rattle.std.specs.Prelude.{ℕ, List, [], ◌≡◌, String, Vec}
use Rattle.std.specs.List.{AllZip}
use Rattle.std.specs.declared.alloc.Global.{Global}
use Rattle.std.specs.Str.{bytes_eq}
use Rattle.std.specs.String.{string_bytes}
use Rattle.indexmap.specs.IndexMap.{insert_entry}
use Rattle.json.specs.Json.{Json, object, Members, no_members, member}
use Rattle.guppy_data.specs.NamedFeature.{IsFeature}
use Rattle.guppy_data.specs.declared.texts.named_feature.NamedFeatureDep.{NamedFeatureDep}
use Rattle.guppy_metadata.specs.Members.{list_of, IsListOfTexts}

-- the feature that a member is: its name, and what the texts of its list switch on
pub record IsNamedFeature (m : List ℕ × Json) (f : String Global × Vec NamedFeatureDep Global) : Type 0 where
  pub name : string_bytes f.0 ≡ m.0
  pub texts : List (List ℕ)
  pub texts_are : m.1 ≡ list_of texts
  pub switches_on : AllZip IsFeature texts f.1.items

-- what was seen, with each of these members put in its place, or behind the others where its name is new
abbrev pub once_behind : List (List ℕ × Json) → Members → List (List ℕ × Json)
once_behind seen no_members = seen
once_behind seen (member name value rest) = once_behind (insert_entry bytes_eq seen name value) rest

-- the members, each name once, where it first stands, with the value that it has last
abbrev pub each_once : Members → List (List ℕ × Json)
each_once = once_behind []

-- each member is a list of texts, also where another one of its name comes behind it
abbrev pub AreListsOfTexts : Members → Type 0
AreListsOfTexts no_members = Unit {0}
AreListsOfTexts (member name value rest) = IsListOfTexts value × AreListsOfTexts rest

-- the features that the members of an object are, each name once
pub record AreFeatures (d : Json) (features : List (String Global × Vec NamedFeatureDep Global)) : Type 0 where
  pub members : Members
  pub members_are : d ≡ object members
  pub lists : AreListsOfTexts members
  pub features_are : AllZip IsNamedFeature (each_once members) features
