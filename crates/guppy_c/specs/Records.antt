-- The records that JSON says, as a text, or why it says none.
use Rattle.std.specs.Prelude.{◌≡◌, ◌⊎◌, ℕ, Bool, true, false, List, None, IsSomeAnd, codes}
use Rattle.std.specs.Str.{IsUtf8}
use Rattle.json.specs.Json.{document}
use Rattle.guppy_data.specs.declared.records.Details.{Details}
use Rattle.guppy_data.specs.declared.records.Details.TheVariants.{With, Without}
use Rattle.guppy_data.specs.declared.records.LinkRecord.{LinkRecord}
use Rattle.guppy_data.specs.declared.records.PackageRecord.{PackageRecord}
use Rattle.guppy_data.specs.declared.records.WorkspaceRecord.{WorkspaceRecord}
use Rattle.guppy_metadata.specs.declared.fault.MetadataFault.{MetadataFault}
use Rattle.guppy_metadata.specs.declared.fault.MetadataFault.TheVariants.{NotJson, NotResolved, OutOfMemory}
use Rattle.guppy_metadata.specs.Fault.{IsOutOfMemory, fault_text}
use Rattle.guppy_metadata.specs.Records.{AreRecordsWith, IsMetadataFault}
use Rattle.guppy_wire.specs.Wire.{AreTold}

-- what a flag asks for
abbrev pub details_of : Bool → Details
details_of true = With
details_of false = Without

-- the text is that of records that the JSON says, with details or without
pub record AreRecords (details : Details) (json text : List ℕ) : Type 0 where
  pub packages : List PackageRecord
  pub links : List LinkRecord
  pub workspace : WorkspaceRecord
  pub said : IsSomeAnd (document json) (λ d. AreRecordsWith details d packages links workspace)
  pub told : AreTold packages links workspace text

-- the bytes are no UTF-8, or no JSON
abbrev pub IsNoJson : List ℕ → Type 0
IsNoJson json = (¬ IsUtf8 json) ⊎ (document json ≡ None)

-- the status that tells what kind of a fault it is
abbrev pub kind_of : MetadataFault → ℕ
kind_of (NotJson line column) = 4
kind_of NotResolved = 5
kind_of OutOfMemory = 3
kind_of _ = 1

-- status and text tell why the JSON says no records
abbrev pub AreRefused : Details → List ℕ → ℕ → List ℕ → Type 0
AreRefused details json status text =
    ((¬ IsUtf8 json) × (status ≡ 4) × (text ≡ codes "the input is no UTF-8"))
    ⊎ ((fault : MetadataFault) × (¬ IsOutOfMemory fault → IsMetadataFault details json fault) × (status ≡ kind_of fault)
    × (text ≡ fault_text fault))
