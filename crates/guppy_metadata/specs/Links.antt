-- What the JSON says of links.
use Rattle.std.specs.Prelude.{◌≡◌, ℕ, true, List, [], Option, Some, None, IsSomeAnd, option_and_then, filter, map, string_bytes, codes}
use Rattle.std.specs.List.{AllZip, flat_map}
use Rattle.std.specs.Option.{option_copied}
use Rattle.semver.specs.Identifiers.{comparator_view}
use Rattle.semver.specs.declared.VersionReq.{VersionReq}
use Rattle.json.specs.Json.{Json, string, array}
use Rattle.json.specs.Find.{get}
use Rattle.json.specs.Value.{items_of}
use Rattle.guppy_data.specs.declared.records.Details.{Details}
use Rattle.guppy_data.specs.declared.records.Details.TheVariants.{With}
use Rattle.guppy_data.specs.declared.records.LinkRecord.{LinkRecord}
use Rattle.guppy_metadata.specs.declared.types.Resolved.{Resolved}
use Rattle.guppy_metadata.specs.declared.types.Usage.{Usage}
use Rattle.guppy_metadata.specs.declared.types.Package.{Package}
use Rattle.guppy_metadata.specs.Dependency.{NamesSection}
use Rattle.guppy_metadata.specs.Fits.{fits, are_matched}
use Rattle.guppy_metadata.specs.Gathered.{IsGathered, IsLinkOf}
use Rattle.guppy_metadata.specs.Members.{IsObject, IsText, IsListOf}
use Rattle.guppy_metadata.specs.Package.{AreParsedPackages, with_id}

-- the link leads from one ID to another, and has this name in the code
pub record Joins (from to name : List ℕ) (r : LinkRecord) : Type 0 where
  pub from_is : r.from ≡ from
  pub to_is : r.to ≡ to
  pub name_is : string_bytes r.resolved_name ≡ name

-- a section and the platforms that a dependency is used for
pub record IsUsage (d : Json) (x : Usage) : Type 0 where
  pub is_object : IsObject d
  pub section : NamesSection d x.section
  pub target : IsText (codes "target") d (option_copied x.target)

-- what a dependency is used for
abbrev pub AreUsages : Json → List Usage → Type 0
AreUsages d usages = IsSomeAnd (get (codes "dep_kinds") d) (λ told. IsListOf IsUsage told usages)

-- a resolved dependency: its ID, its name in the code, and what it is used for
pub record IsResolved (d : Json) (x : Resolved) : Type 0 where
  pub id_is : get (codes "pkg") d ≡ Some (string x.id.now)
  pub name_is : get (codes "name") d ≡ Some (string x.name.now)
  pub usages_are : AreUsages d x.usages.items

-- the link from this ID that was resolved so, with this name in the manifest and these versions, is asked for in no section
pub record IsBareLink (from : List ℕ) (resolved : Resolved) (dep_name : List ℕ) (requirement : VersionReq) (r : LinkRecord) : Type 0 where
  pub joins : Joins from resolved.id.now resolved.name.now r
  pub dep_name_is : string_bytes r.dep_name ≡ dep_name
  pub requirement_is : map comparator_view r.version_req.comparators.items ≡ map comparator_view requirement.comparators.items
  pub gathered : IsGathered [] r

-- the link is asked for by no dependency, with any version, and is named as in the code
pub record IsUnasked (name : List ℕ) (r : LinkRecord) : Type 0 where
  pub dep_name : string_bytes r.dep_name ≡ name
  pub requirement : r.version_req.comparators.items ≡ []
  pub gathered : IsGathered [] r

-- what asks for the link: of the dependencies that its package declares, those that were resolved to the needed one,
-- of which each usage has one; none where one of the two is no package
abbrev pub IsAsked : Option Package → Option Package → Resolved → LinkRecord → Type 0
IsAsked (Some asking) (Some needed) resolved r =
    IsLinkOf (filter (fits asking resolved needed) asking.declared.items) r
    × (are_matched asking resolved needed asking.declared.items resolved.usages.items ≡ true)
IsAsked (Some asking) None resolved r = IsUnasked resolved.name.now r
IsAsked None needed resolved r = IsUnasked resolved.name.now r

-- the link from this ID that the dependency is
pub record IsLink (packages : List Package) (from : List ℕ) (d : Json) (r : LinkRecord) : Type 0 where
  pub resolved : Resolved
  pub resolved_is : IsResolved d resolved
  pub joins : Joins from resolved.id.now resolved.name.now r
  pub asked : IsAsked (with_id from packages) (with_id resolved.id.now packages) resolved r

-- the links from this ID: one for each dependency of a node, in their order
abbrev pub AreLinksFrom : List Package → List ℕ → Json → List LinkRecord → Type 0
AreLinksFrom packages from d links = IsSomeAnd (get (codes "deps") d) (λ deps. IsListOf (IsLink packages from) deps links)

-- the links that leave the package of a node
pub record AreLinksOf (packages : List Package) (d : Json) (links : List LinkRecord) : Type 0 where
  pub id : List ℕ
  pub id_is : get (codes "id") d ≡ Some (string id)
  pub links_are : AreLinksFrom packages id d links

-- the links of all nodes, one row behind the other
pub record AreLinksOfAll (packages : List Package) (nodes : List Json) (links : List LinkRecord) : Type 0 where
  pub rows : List (List LinkRecord)
  pub rows_are : AllZip (AreLinksOf packages) nodes rows
  pub all : links ≡ flat_map (λ row. row) rows

-- the links of all nodes of a list
abbrev pub AreLinksOfList : List Package → Json → List LinkRecord → Type 0
AreLinksOfList packages told links = (nodes : List Json) × (told ≡ array (items_of nodes)) × AreLinksOfAll packages nodes links

-- the nodes of the resolved dependencies
abbrev pub nodes_in : Json → Option Json
nodes_in d = option_and_then (get (codes "nodes")) (get (codes "resolve") d)

-- the links of what is resolved, between the packages, with details or without
pub record AreLinksWith (details : Details) (d : Json) (links : List LinkRecord) : Type 0 where
  pub packages : List Package
  pub packages_are : AreParsedPackages details d packages
  pub links_are : IsSomeAnd (nodes_in d) (λ nodes. AreLinksOfList packages nodes links)

-- the links of what is resolved, between the packages
abbrev pub AreLinks : Json → List LinkRecord → Type 0
AreLinks d links = AreLinksWith With d links
