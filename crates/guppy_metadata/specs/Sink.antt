-- Records that were read, of which sinks took details of packages, and the first links.
use Rattle.std.specs.Prelude.{◌≡◌, ◌++◌, List}
use Rattle.std.specs.List.{AllZip}
use Rattle.json.specs.Json.{Json}
use Rattle.guppy_data.specs.declared.records.Details.{Details}
use Rattle.guppy_data.specs.declared.records.LinkRecord.{LinkRecord}
use Rattle.guppy_data.specs.declared.records.PackageRecord.{PackageRecord}
use Rattle.guppy_metadata.specs.declared.sink.ReadLinks.{ReadLinks}
use Rattle.guppy_metadata.specs.declared.sink.ReadPackages.{ReadPackages}
use Rattle.guppy_metadata.specs.declared.sink.ReadRecords.{ReadRecords}
use Rattle.guppy_metadata.specs.Package.{IsPlaced}
use Rattle.guppy_metadata.specs.Records.{AreRecordsWith}

-- these are the links that the sink took, and behind them those that it left
abbrev pub AreRead : {S : Type 0} → (S → List LinkRecord → Type 0) → ReadLinks S → List LinkRecord → Type 0
AreRead took read links = (taken : List LinkRecord) × took read.sink taken × (links ≡ taken ++ read.left.items)

-- the second is the first record, but for details
pub record IsShort (r short : PackageRecord) : Type 0 where
  pub id : r.id ≡ short.id
  pub name : r.name ≡ short.name
  pub version : r.version ≡ short.version
  pub source : r.source ≡ short.source
  pub manifest_path : r.manifest_path ≡ short.manifest_path
  pub edition : r.edition ≡ short.edition
  pub description : r.description ≡ short.description
  pub license : r.license ≡ short.license
  pub repository : r.repository ≡ short.repository

-- these are the packages, which a sink was shown before it was known where they come from, and of which it left those
pub record AreReadPackages {P : Type 0} (took : P → List PackageRecord → List PackageRecord → Type 0) (read : ReadPackages P) (packages : List PackageRecord) : Type 0 where
  pub shown : List PackageRecord
  pub left : List PackageRecord
  pub took_are : took read.sink shown left
  pub shown_are : AllZip IsPlaced shown packages
  pub left_are : AllZip IsPlaced left read.left.items
  pub short : AllZip IsShort packages read.left.items

-- the JSON says the records, with details or without, of which sinks took what they did
pub record AreReadRecords {P S : Type 0} (took : P → List PackageRecord → List PackageRecord → Type 0) (took_links : S → List LinkRecord → Type 0) (details : Details) (d : Json) (read : ReadRecords P S) : Type 0 where
  pub packages : List PackageRecord
  pub links : List LinkRecord
  pub packages_are : AreReadPackages took read.packages packages
  pub links_are : AreRead took_links read.links links
  pub said : AreRecordsWith details d packages links read.workspace
