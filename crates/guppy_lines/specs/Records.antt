-- The records that the lines of an input say.
use Rattle.std.specs.Prelude.{◌≡◌, ℕ, List, [], Option, Some, None, string_bytes, codes}
use Rattle.std.specs.List.{AllZip, filter_map}
use Rattle.semver.specs.Identifiers.{parts_of}
use Rattle.serde_json.specs.declared.value.Value.{Null}
use Rattle.guppy_data.specs.declared.texts.dependency_kind.DependencyKind.{DependencyKind}
use Rattle.guppy_data.specs.declared.texts.dependency_kind.DependencyKind.TheVariants.{Normal, Development, Build}
use Rattle.guppy_data.specs.declared.records.PackageRecord.{PackageRecord}
use Rattle.guppy_data.specs.declared.records.PackageSourceRecord.TheVariants.{Workspace}
use Rattle.guppy_data.specs.declared.records.LinkRecord.{LinkRecord}
use Rattle.guppy_data.specs.declared.records.WorkspaceRecord.{WorkspaceRecord}
use Rattle.guppy_data.specs.Platform.{Status, Never, Always}
use Rattle.guppy_data.specs.Records.{IsBare, IsRequired}
use Rattle.guppy_lines.specs.Text.{Statement, a_package, a_link}

-- the ends of a link and its section
pub record LinkStatement : Type 0 where
  pub from : List ℕ
  pub to : List ℕ
  pub section : DependencyKind

abbrev pub package_of : Statement → Option (List ℕ)
package_of (a_package id) = Some id
package_of (a_link from to section) = None

abbrev pub link_of : Statement → Option LinkStatement
link_of (a_package id) = None
link_of (a_link from to section) = Some (record { from = from; to = to; section = section })

-- a member of the workspace, with its ID as its name and its path, of which nothing else is known
pub record IsPackageOf (id : List ℕ) (r : PackageRecord) : Type 0 where
  pub id_is : r.id ≡ id
  pub name : string_bytes r.name ≡ id
  pub version : parts_of r.version ≡ (0, 0, 0, [], [])
  pub source : r.source ≡ Workspace id
  pub manifest_path : r.manifest_path ≡ codes "Cargo.toml"
  pub edition : string_bytes r.edition ≡ codes "2021"
  pub bare : IsBare r

-- a line that names one section asks for that section everywhere, and for the others nowhere
abbrev pub status_in : DependencyKind → DependencyKind → Status
status_in Normal Normal = Always
status_in Build Build = Always
status_in Development Development = Always
status_in named section = Never

-- a link in the line's section, named after the package that it leads to, of which every version
-- will do: `*` has no comparator
pub record IsLinkOf (line : LinkStatement) (r : LinkRecord) : Type 0 where
  pub from : r.from ≡ line.from
  pub to : r.to ≡ line.to
  pub dep_name : string_bytes r.dep_name ≡ line.to
  pub resolved_name : string_bytes r.resolved_name ≡ line.to
  pub version_req : r.version_req.comparators.items ≡ []
  pub registry : r.registry ≡ None
  pub path : r.path ≡ None
  pub normal : IsRequired (status_in line.section Normal) r.normal
  pub build : IsRequired (status_in line.section Build) r.build
  pub dev : IsRequired (status_in line.section Development) r.dev

-- the workspace at the root, with no default members, of which nothing else is known
pub record IsWorkspace (r : WorkspaceRecord) : Type 0 where
  pub root : r.root ≡ codes "/"
  pub target_directory : r.target_directory ≡ codes "/target"
  pub build_directory : r.build_directory ≡ None
  pub metadata_table : r.metadata_table ≡ Null
  pub default_members : r.default_members.items ≡ []

-- the packages are those of the package lines and the links those of the link lines, each in their
-- order
pub record AreRecordsOf (statements : List Statement) (packages : List PackageRecord)
    (links : List LinkRecord) (workspace : WorkspaceRecord) : Type 0 where
  pub packages_are : AllZip IsPackageOf (filter_map package_of statements) packages
  pub links_are : AllZip IsLinkOf (filter_map link_of statements) links
  pub workspace_is : IsWorkspace workspace
