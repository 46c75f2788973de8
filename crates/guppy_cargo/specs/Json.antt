-- What `guppy-cargo` reads, and what it calls packages.
use Rattle.std.specs.Prelude.{◌≡◌, ℕ, List, IsSomeAnd, Vec, String, string_bytes}
use Rattle.std.specs.declared.alloc.Global.{Global}
use Rattle.std.specs.Str.{IsUtf8}
use Rattle.json.specs.Json.{document}
use Rattle.guppy_data.specs.declared.records.Details.{Details}
use Rattle.guppy_data.specs.declared.records.PackageRecord.{PackageRecord}
use Rattle.guppy_data.specs.declared.records.LinkRecord.{LinkRecord}
use Rattle.guppy_data.specs.declared.records.WorkspaceRecord.{WorkspaceRecord}
use Rattle.guppy_metadata.specs.Records.{AreRecordsWith, IsMetadataFault}
use Rattle.guppy_declared.specs.Declares.{Declares}
use Rattle.guppy_print.specs.Format.{Format}
use Rattle.guppy_arguments.specs.declared.fault.CargoFault.{CargoFault}
use Rattle.guppy_arguments.specs.declared.fault.CargoFault.TheVariants.{Cycle, Metadata, NoText}
use Rattle.guppy_arguments.specs.Fault.{cause_of, fault_text}
use Rattle.guppy_arguments.specs.Names.{text, meant}
use Rattle.guppy_arguments.specs.Table.{cargo_program}
use Rattle.guppy_arguments.specs.Told.{Tells}
use Rattle.guppy_command.specs.Asked.{Asks}
use Rattle.guppy_cargo.specs.Unknown.{TellsUnknown}

-- the input is JSON that says these records, with details or without
abbrev pub SaysRecords : Details → List ℕ → List PackageRecord → List LinkRecord → WorkspaceRecord → Type 0
SaysRecords details input packages links workspace =
    IsSomeAnd (document input) (λ d. AreRecordsWith details d packages links workspace)

-- the input is UTF-8, and JSON that says that the one member declares the other
abbrev pub SaysDeclared : List ℕ → List ℕ → List ℕ → Type 0
SaysDeclared input from to = IsUtf8 input × IsSomeAnd (document input) (λ d. Declares d from to)

-- the input is no UTF-8, or the JSON has the fault
abbrev pub IsInputFault : Details → List ℕ → CargoFault → Type 0
IsInputFault details input (Metadata fault) = IsMetadataFault details input fault
IsInputFault details input NoText = ¬ IsUtf8 input
IsInputFault details input _ = ⊥

-- the fault tells the cycle of these packages by this text
abbrev pub TellsCycle : Vec (List ℕ) Global → List ℕ → CargoFault → Type 0
TellsCycle ids round fault = (text : String Global) × (fault ≡ Cycle ids text) × (string_bytes text ≡ round)

-- JSON says records, and a package is called by its name, its name and version, or its ID
abbrev pub json_format : Format CargoFault
json_format = record {
  says = SaysRecords;
  refuses = IsInputFault;
  declares = SaysDeclared;
  asks = λ has args asked. Asks has cargo_program args asked;
  misreads = Tells;
  text = text;
  meant = meant;
  tells_unknown = TellsUnknown;
  tells_cycle = TellsCycle;
  tells = λ fault cause text. (cause ≡ cause_of fault) × (text ≡ fault_text fault);
}
