-- What the JSON of a package says.
use Rattle.std.specs.Prelude.{◌≡◌, ◌==◌, ◌⊎◌, ℕ, zero, suc, Bool, true, false, List, [], ◌∷◌, ◌++◌, Option, Some, None, IsSomeAnd, Ok, length, cond, String, Vec, filter, map, option_map, unwrap_or, string_bytes, codes}
use Rattle.std.specs.declared.alloc.Global.{Global}
use Rattle.std.specs.List.{last_or}
use Rattle.std.specs.Option.{option_copied, option_or}
use Rattle.std.specs.Str.{bytes_eq}
use Rattle.indexmap.specs.IndexMap.{IndexMap, get_by_text}
use Rattle.semver.specs.Identifiers.{parts_of}
use Rattle.semver.specs.Parse.{version_parts}
use Rattle.semver.specs.declared.Version.{Version}
use Rattle.json.specs.Json.{Json, null, string}
use Rattle.json.specs.Find.{get}
use Rattle.serde_json.specs.View.{view}
use Rattle.serde_json.specs.declared.value.Value.{Null}
use Rattle.guppy_data.specs.declared.records.BuildTargetRecord.{BuildTargetRecord}
use Rattle.guppy_data.specs.declared.records.Details.{Details}
use Rattle.guppy_data.specs.declared.records.Details.TheVariants.{With, Without}
use Rattle.guppy_data.specs.declared.records.PackageRecord.{PackageRecord}
use Rattle.guppy_data.specs.declared.records.PackagePublishRecord.{PackagePublishRecord}
use Rattle.guppy_data.specs.declared.records.PackagePublishRecord.TheVariants.{Unrestricted, Registries}
use Rattle.guppy_data.specs.declared.records.PackageSourceRecord.{PackageSourceRecord}
use Rattle.guppy_data.specs.declared.records.PackageSourceRecord.TheVariants.{Workspace, Path, External}
use Rattle.guppy_data.specs.declared.texts.named_feature.NamedFeatureDep.{NamedFeatureDep}
use Rattle.guppy_metadata.specs.declared.types.Declared.{Declared}
use Rattle.guppy_metadata.specs.declared.types.Package.{Package}
use Rattle.guppy_metadata.specs.Dependency.{IsDeclared, NamesOptional, AreOptional}
use Rattle.guppy_metadata.specs.Feature.{AreFeatures}
use Rattle.guppy_metadata.specs.Members.{present, IsText, IsListOf, list_of, AreTexts, is_among, are_among}
use Rattle.guppy_metadata.specs.Path.{IsFolderFrom}
use Rattle.guppy_metadata.specs.Table.{IsTable}
use Rattle.guppy_metadata.specs.Target.{IsTarget, IsLibraryAmong}

-- where a package with this manifest comes from, in a workspace at the root: from a folder of it as its member,
-- from another place that is told, or from a path
abbrev pub IsFrom : List ℕ → List ℕ → Bool → Option (List ℕ) → PackageSourceRecord → Type 0
IsFrom root manifest is_member told (Workspace folder) =
    (is_member ≡ true) × IsFolderFrom root manifest folder
IsFrom root manifest is_member told (External source) =
    (is_member ≡ false) × (told ≡ Some (string_bytes source))
IsFrom root manifest is_member told (Path folder) =
    (is_member ≡ false) × (told ≡ None) × IsFolderFrom root manifest folder

-- where the package may be published: everywhere where nothing is told
abbrev pub IsPublishable : Json → PackagePublishRecord → Type 0
IsPublishable d Unrestricted = present (codes "publish") d ≡ None
IsPublishable d (Registries names) =
    present (codes "publish") d ≡ Some (list_of (map string_bytes names.items))

-- what each package has
pub record HasIdentity (d : Json) (r : PackageRecord) : Type 0 where
  pub id : get (codes "id") d ≡ Some (string r.id)
  pub name : get (codes "name") d ≡ Some (string (string_bytes r.name))
  pub version : (text : List ℕ) × (get (codes "version") d ≡ Some (string text))
      × (version_parts text ≡ Ok (parts_of r.version))
  pub manifest_path : get (codes "manifest_path") d ≡ Some (string r.manifest_path)
  pub edition : get (codes "edition") d ≡ Some (string (string_bytes r.edition))

-- what of a package may be left out by Cargo, and is read with details or without
pub record HasSummary (d : Json) (r : PackageRecord) : Type 0 where
  pub description : IsText (codes "description") d (option_map string_bytes r.description)
  pub license : IsText (codes "license") d (option_map string_bytes r.license)
  pub repository : IsText (codes "repository") d (option_map string_bytes r.repository)
  pub publish : IsPublishable d r.publish

-- what is read of each package, with details or without
pub record HasPlainFields (d : Json) (r : PackageRecord) : Type 0 where
  pub known : HasIdentity d r
  pub shown : HasSummary d r

-- what else is told of a package for people
pub record HasDescription (d : Json) (r : PackageRecord) : Type 0 where
  pub authors : AreTexts (codes "authors") d (map string_bytes r.authors.items)
  pub license_file : IsText (codes "license_file") d r.license_file
  pub categories : AreTexts (codes "categories") d (map string_bytes r.categories.items)
  pub keywords : AreTexts (codes "keywords") d (map string_bytes r.keywords.items)
  pub readme : IsText (codes "readme") d r.readme
  pub homepage : IsText (codes "homepage") d (option_map string_bytes r.homepage)
  pub documentation : IsText (codes "documentation") d (option_map string_bytes r.documentation)

-- as many zeros as a version with so many dots leaves out
abbrev pub zeros_behind : ℕ → List ℕ
zeros_behind zero = codes ".0.0"
zeros_behind (suc zero) = codes ".0"
zeros_behind (suc (suc more)) = []

-- how many dots the text has
abbrev pub dots_in : List ℕ → ℕ
dots_in text = length (filter (λ byte. byte == 46) text)

-- the text of a version with zeros in place of the numbers that it leaves out
abbrev pub whole_version : List ℕ → List ℕ
whole_version text = text ++ zeros_behind (dots_in text)

-- the oldest Rust that builds a package, where one is told
abbrev pub IsRustVersion : Json → Option Version → Type 0
IsRustVersion d None = IsText (codes "rust_version") d None
IsRustVersion d (Some version) = (text : List ℕ) × IsText (codes "rust_version") d (Some text)
    × (version_parts (whole_version text) ≡ Ok (parts_of version))

-- these are the named features that are told of a package
abbrev pub AreNamedFeatures : Json → List (String Global × Vec NamedFeatureDep Global) → Type 0
AreNamedFeatures d features = IsSomeAnd (get (codes "features") d) (λ told. AreFeatures told features)

-- what else is told of a package for Cargo
pub record HasCargoFields (d : Json) (r : PackageRecord) : Type 0 where
  pub metadata_table : IsTable (unwrap_or (get (codes "metadata") d) null) (view r.metadata_table)
  pub links : IsText (codes "links") d (option_map string_bytes r.links)
  pub default_run : IsText (codes "default_run") d (option_map string_bytes r.default_run)
  pub rust_version : IsRustVersion d r.rust_version
  pub features : IsSomeAnd (get (codes "features") d) (λ told. AreFeatures told r.named_features.entries)

-- nothing of this is told of a package
pub record HasNoDetails (r : PackageRecord) : Type 0 where
  pub authors : r.authors.items ≡ []
  pub license_file : r.license_file ≡ None
  pub categories : r.categories.items ≡ []
  pub keywords : r.keywords.items ≡ []
  pub readme : r.readme ≡ None
  pub homepage : r.homepage ≡ None
  pub documentation : r.documentation ≡ None
  pub metadata_table : r.metadata_table ≡ Null
  pub links : r.links ≡ None
  pub default_run : r.default_run ≡ None
  pub rust_version : r.rust_version ≡ None
  pub features : r.named_features.entries ≡ []
  pub optional_deps : r.optional_deps.keys ≡ []

-- the details that are told of a package, or none of them where they are left out
pub record HasDetails (details : Details) (d : Json) (r : PackageRecord) : Type 0 where
  pub described : details ≡ With → HasDescription d r
  pub filled : details ≡ With → HasCargoFields d r
  pub plain : details ≡ Without → HasNoDetails r

-- these are the build targets that are told of a package
abbrev pub AreTargets : Json → List BuildTargetRecord → Type 0
AreTargets d targets = IsSomeAnd (get (codes "targets") d) (λ told. IsListOf IsTarget told targets)

-- the build targets that are told of a package, or none of them where details are left out
pub record AreAskedTargets (details : Details) (d : Json) (targets : List BuildTargetRecord) : Type 0 where
  pub told : details ≡ With → AreTargets d targets
  pub left_out : details ≡ Without → targets ≡ []

-- this is the name of the package's library, or it has none
abbrev pub IsLibrary : Json → Option (List ℕ) → Type 0
IsLibrary d name = IsSomeAnd (get (codes "targets") d) (λ told. IsLibraryAmong told name)

-- these are the dependencies that a package declares
abbrev pub AreDeclared : Details → Json → List Declared → Type 0
AreDeclared details d declared = IsSomeAnd (get (codes "dependencies") d) (λ told. IsListOf (IsDeclared details) told declared)

-- a package as the JSON tells it, but for where it comes from
pub record IsParsedPackage (details : Details) (d : Json) (p : Package) : Type 0 where
  pub id : get (codes "id") d ≡ Some (string p.id.now)
  pub source : IsText (codes "source") d (option_copied p.source)
  pub named : HasPlainFields d p.record
  pub detailed : HasDetails details d p.record
  pub targets : AreAskedTargets details d p.record.build_targets.items
  pub library : IsLibrary d (option_map string_bytes p.library)
  pub declared : AreDeclared details d p.declared.items
  pub optional : details ≡ With → NamesOptional p.declared.items p.record.optional_deps

-- whether the member of this name is asked for: without details, whether it is none
abbrev pub is_asked : Details → List ℕ → Bool
is_asked With name = true
is_asked Without name = is_among (codes "id" ∷ codes "name" ∷ codes "version" ∷ codes "source" ∷ codes "manifest_path" ∷ codes "edition" ∷ codes "description" ∷ codes "license" ∷ codes "repository" ∷ codes "publish" ∷ []) name

-- the member of this name is asked for, and is not the dependencies
abbrev pub IsOwn : Details → List ℕ → Type 0
IsOwn details name = (bytes_eq (codes "dependencies") name ≡ false) × (is_asked details name ≡ true)

-- the members of the two objects that are asked for are the same, but for the dependencies
abbrev pub AreAlike : Details → Json → Json → Type 0
AreAlike details d e = (name : List ℕ) → IsOwn details name → get name d ≡ get name e

-- the packages that the JSON tells
abbrev pub AreParsedPackages : Details → Json → List Package → Type 0
AreParsedPackages details d packages = IsSomeAnd (get (codes "packages") d) (λ told. IsListOf (IsParsedPackage details) told packages)

-- the second is the first package, whose dependencies may have been let go
pub record IsSlimPackage (p q : Package) : Type 0 where
  pub id : p.id ≡ q.id
  pub source : p.source ≡ q.source
  pub library : p.library ≡ q.library
  pub record_is : p.record ≡ q.record
  pub declared : (p.declared.items ≡ q.declared.items) ⊎ (q.declared.items ≡ [])

-- the second is the first record, but for where the package comes from
abbrev pub IsPlaced : PackageRecord → PackageRecord → Type 0
IsPlaced r placed = placed ≡ record r { source = placed.source }

-- the record of the package, in a workspace at the root of which these IDs are the members
pub record IsRecordOf (root : List ℕ) (is_member : List ℕ → Bool) (p : Package) (r : PackageRecord) : Type 0 where
  pub source : IsFrom root r.manifest_path (is_member p.id.now) (option_copied p.source) r.source
  pub record_is : IsPlaced p.record r

-- a package's record, in a workspace at the root of which these IDs are the members
pub record IsPackage (details : Details) (root : List ℕ) (is_member : List ℕ → Bool) (d : Json) (r : PackageRecord) : Type 0 where
  pub named : HasPlainFields d r
  pub detailed : HasDetails details d r
  pub targets : AreAskedTargets details d r.build_targets.items
  pub optional : details ≡ With → IsSomeAnd (get (codes "dependencies") d) (λ told. AreOptional told r.optional_deps)
  pub source : Option (List ℕ)
  pub source_is : IsText (codes "source") d source
  pub comes_from : IsFrom root r.manifest_path (is_member r.id) source r.source

-- the packages, in their order, of which each member is one, with details or without
abbrev pub ArePackagesWith : Details → Json → List PackageRecord → Type 0
ArePackagesWith details d records = (root : List ℕ) × (members : List (List ℕ))
    × (get (codes "workspace_root") d ≡ Some (string root))
    × (get (codes "workspace_members") d ≡ Some (list_of members))
    × (are_among (map (λ r. r.id) records) members ≡ true)
    × IsSomeAnd (get (codes "packages") d) (λ told. IsListOf (IsPackage details root (is_among members)) told records)

-- the packages, in their order, of which each member is one
abbrev pub ArePackages : Json → List PackageRecord → Type 0
ArePackages d records = ArePackagesWith With d records

-- whether each of these is the ID of one of the packages
abbrev pub are_known : List Package → List (List ℕ) → Bool
are_known packages ids = are_among (map (λ p. p.id.now) packages) ids

-- the last package with this ID
abbrev pub with_id : List ℕ → List Package → Option Package
with_id id packages = last_or None (filter (λ p. bytes_eq p.id.now id) packages)

-- the position of the last of these IDs that is this one
abbrev pub last_position : List ℕ → List (List ℕ) → Option ℕ
last_position id [] = None
last_position id (other ∷ ids) = option_or (option_map suc (last_position id ids)) (cond (bytes_eq other id) (Some 0) None)

-- the positions of the packages behind their IDs
abbrev pub ArePositions : {S : Type 0} → List Package → IndexMap (String Global) ℕ S → Type 0
ArePositions packages positions = (id : List ℕ)
    → get_by_text positions id ≡ last_position id (map (λ p. p.id.now) packages)
