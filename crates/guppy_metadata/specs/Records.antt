-- What the JSON says of all records.
use Rattle.std.specs.Prelude.{◌≡◌, ◌↔◌, ℕ, List, None, Some, IsSomeAnd, codes}
use Rattle.json.specs.Json.{Json, document}
use Rattle.guppy_data.specs.declared.records.Details.{Details}
use Rattle.guppy_data.specs.declared.records.Details.TheVariants.{With}
use Rattle.guppy_data.specs.declared.records.LinkRecord.{LinkRecord}
use Rattle.guppy_data.specs.declared.records.PackageRecord.{PackageRecord}
use Rattle.guppy_data.specs.declared.records.WorkspaceRecord.{WorkspaceRecord}
use Rattle.guppy_metadata.specs.declared.fault.MetadataFault.{MetadataFault}
use Rattle.guppy_metadata.specs.Fault.{IsNotJson, IsNotResolved}
use Rattle.guppy_metadata.specs.Links.{AreLinksWith}
use Rattle.guppy_metadata.specs.Members.{IsObject, present}
use Rattle.guppy_metadata.specs.Package.{ArePackagesWith}
use Rattle.guppy_metadata.specs.Workspace.{IsWorkspace}

-- the JSON says these packages, these links and this workspace, with details or without
pub record AreRecordsWith (details : Details) (d : Json) (packages : List PackageRecord) (links : List LinkRecord) (workspace : WorkspaceRecord) : Type 0 where
  pub packages_are : ArePackagesWith details d packages
  pub links_are : AreLinksWith details d links
  pub workspace_is : IsWorkspace d workspace

-- the JSON says these packages, these links and this workspace
abbrev pub AreRecords : Json → List PackageRecord → List LinkRecord → WorkspaceRecord → Type 0
AreRecords d packages links workspace = AreRecordsWith With d packages links workspace

-- the text is no JSON, or says no records, with details or without
abbrev pub SaysNoRecordsWith : Details → List ℕ → Type 0
SaysNoRecordsWith details text = (d : Json) → document text ≡ Some d
    → (packages : List PackageRecord) (links : List LinkRecord) (workspace : WorkspaceRecord) → ¬ AreRecordsWith details d packages links workspace

-- the text is no JSON, or says no records
abbrev pub SaysNoRecords : List ℕ → Type 0
SaysNoRecords text = SaysNoRecordsWith With text

-- the text is an object that tells nothing of what is resolved
abbrev pub IsUnresolved : List ℕ → Type 0
IsUnresolved text = IsSomeAnd (document text) (λ d. IsObject d × (present (codes "resolve") d ≡ None))

-- that the text is no JSON is told exactly where it is none, that no dependencies are resolved exactly where it is an
-- object that says nothing of them, and any fault only where it says no such records
pub record IsMetadataFault (details : Details) (text : List ℕ) (fault : MetadataFault) : Type 0 where
  pub no_json : IsNotJson fault ↔ (document text ≡ None)
  pub not_resolved : IsNotResolved fault ↔ IsUnresolved text
  pub no_records : SaysNoRecordsWith details text
