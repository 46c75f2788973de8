-- What is told by the members of the object of the whole JSON that were read.
use Rattle.std.specs.Prelude.{◌≡◌, ℕ, false, cond, List, Some, IfSome, map, codes}
use Rattle.std.specs.List.{AllZip}
use Rattle.std.specs.Str.{bytes_eq}
use Rattle.json.specs.Json.{Json, object}
use Rattle.json.specs.Find.{get}
use Rattle.json.specs.Value.{members_view}
use Rattle.guppy_data.specs.declared.records.Details.{Details}
use Rattle.guppy_data.specs.declared.records.LinkRecord.{LinkRecord}
use Rattle.guppy_data.specs.declared.records.PackageRecord.{PackageRecord}
use Rattle.guppy_metadata.specs.declared.types.Package.{Package}
use Rattle.guppy_metadata.specs.declared.types.Shown.{Shown}
use Rattle.guppy_metadata.specs.declared.types.Told.{Told}
use Rattle.guppy_metadata.specs.Links.{AreLinksWith}
use Rattle.guppy_metadata.specs.Package.{AreParsedPackages, IsSlimPackage}
use Rattle.guppy_metadata.specs.Sink.{AreRead, IsShort}

-- the members of the second object are those of the first, and behind them this one
abbrev pub IsWith : List ℕ → Json → Json → Json → Type 0
IsWith name told d e = (wanted : List ℕ) → get wanted e ≡ cond (bytes_eq name wanted) (Some told) (get wanted d)

-- it is neither the packages' name nor that of what is resolved
abbrev pub IsOther : List ℕ → Type 0
IsOther name = (bytes_eq (codes "packages") name ≡ false) × (bytes_eq (codes "resolve") name ≡ false)

-- the second is the first package, but for details of its record
pub record IsShortPackage (p q : Package) : Type 0 where
  pub id : p.id ≡ q.id
  pub source : p.source ≡ q.source
  pub library : p.library ≡ q.library
  pub declared : p.declared ≡ q.declared
  pub record_is : IsShort p.record q.record

-- a sink was shown the first packages, and left the second
pub record AreShown {P : Type 0} (took : P → List PackageRecord → List PackageRecord → Type 0) (sink : P) (shown left : List Package) : Type 0 where
  pub took_are : took sink (map (λ p. p.record) shown) (map (λ p. p.record) left)
  pub short : AllZip IsShortPackage shown left

-- the packages that the JSON tells, each of which a sink was shown, and whose dependencies may have been let go
pub record AreShownPackages {P : Type 0} (took : P → List PackageRecord → List PackageRecord → Type 0) (details : Details) (d : Json) (read : Shown P) : Type 0 where
  pub whole : List Package
  pub told : AreParsedPackages details d whole
  pub left : List Package
  pub shown : AreShown took read.sink whole left
  pub slim : AllZip IsSlimPackage left read.packages.items

-- the object of the first members tells this, of which sinks took what they did
pub record Tells {P S : Type 0} (took : P → List PackageRecord → List PackageRecord → Type 0) (took_links : S → List LinkRecord → Type 0) (details : Details) (d : Json) (told : Told P S) : Type 0 where
  pub packages_are : IfSome told.packages (λ shown. AreShownPackages took details d shown)
  pub links_are : IfSome told.links (λ read. (links : List LinkRecord) × AreRead took_links read links × AreLinksWith details d links)
  pub others_are : (name : List ℕ) → IsOther name → get name (object (members_view told.others.items)) ≡ get name d
