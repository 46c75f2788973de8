-- What the JSON of a declared dependency says.
use Rattle.std.specs.Prelude.{◌≡◌, ◌⊎◌, ℕ, true, false, List, [], Option, Some, None, Ok, String, map, unwrap_or, if◌then◌else◌, codes}
use Rattle.std.specs.declared.alloc.Global.{Global}
use Rattle.std.specs.List.{filter_map}
use Rattle.std.specs.Option.{option_copied}
use Rattle.std.specs.Str.{bytes_eq}
use Rattle.std.specs.String.{string_bytes}
use Rattle.semver.specs.Identifiers.{comparator_view}
use Rattle.semver.specs.Parse.{req_of}
use Rattle.semver.specs.declared.VersionReq.{VersionReq}
use Rattle.json.specs.Json.{Json, string}
use Rattle.json.specs.Find.{get}
use Rattle.indexmap.specs.IndexSet.{IndexSet, insert_all}
use Rattle.guppy_data.specs.declared.records.Details.{Details}
use Rattle.guppy_data.specs.declared.records.Details.TheVariants.{With, Without}
use Rattle.guppy_data.specs.declared.texts.dependency_kind.DependencyKind.{DependencyKind}
use Rattle.guppy_data.specs.declared.texts.dependency_kind.DependencyKind.TheVariants.{Normal, Development, Build}
use Rattle.guppy_metadata.specs.declared.types.Declared.{Declared}
use Rattle.guppy_metadata.specs.Members.{IsText, IsTruth, IsListOf, AreTexts}

-- the section that the member `kind` names: the normal one where there is none
abbrev pub NamesSection : Json → DependencyKind → Type 0
NamesSection d Normal = IsText (codes "kind") d None ⊎ IsText (codes "kind") d (Some (codes "normal"))
NamesSection d Development = IsText (codes "kind") d (Some (codes "dev"))
NamesSection d Build = IsText (codes "kind") d (Some (codes "build"))

-- the requirement that the text of the member `req` is
abbrev pub NamesRequirement : Json → VersionReq → Type 0
NamesRequirement d req = (text : List ℕ) × (get (codes "req") d ≡ Some (string text))
    × (req_of text ≡ Ok (map comparator_view req.comparators.items))

-- the features that a dependency asks for, or none where details are left out
pub record AreAsked (details : Details) (d : Json) (texts : List (List ℕ)) : Type 0 where
  pub told : details ≡ With → AreTexts (codes "features") d texts
  pub left_out : details ≡ Without → texts ≡ []

-- a declared dependency
pub record IsDeclared (details : Details) (d : Json) (x : Declared) : Type 0 where
  pub name : get (codes "name") d ≡ Some (string x.name.now)
  pub rename : IsText (codes "rename") d (option_copied x.rename)
  pub requirement : NamesRequirement d x.requirement
  pub section : NamesSection d x.section
  pub target : IsText (codes "target") d (option_copied x.target)
  pub optional : IsTruth (codes "optional") d false x.optional
  pub default_features : IsTruth (codes "uses_default_features") d true x.default_features
  pub features : AreAsked details d (map (λ text. text.now) x.features.items)
  pub registry : IsText (codes "registry") d (option_copied x.registry)
  pub path : IsText (codes "path") d (option_copied x.path)

-- the name of a dependency in the manifest
abbrev pub manifest_name : Declared → List ℕ
manifest_name x = unwrap_or (option_copied x.rename) x.name.now

-- the name of an optional dependency in the manifest
abbrev pub optional_name : Declared → Option (List ℕ)
optional_name x = if x.optional then Some (manifest_name x) else None

-- these are the names of the optional ones of these dependencies, in their order, each once
abbrev pub NamesOptional : {S : Type 0} → List Declared → IndexSet (String Global) S → Type 0
NamesOptional declared names =
    map string_bytes names.keys ≡ insert_all bytes_eq [] (filter_map optional_name declared)

-- these are the names of the optional ones among the dependencies of a list
abbrev pub AreOptional : {S : Type 0} → Json → IndexSet (String Global) S → Type 0
AreOptional d names = (declared : List Declared) × IsListOf (IsDeclared With) d declared × NamesOptional declared names
