-- What `guppy-run` is asked, and the lines of an input, as it reads them.
use Rattle.std.specs.Prelude.{◌≡◌, ℕ, List, [], ◌∷◌, false, is_some, map, option_map, if◌then◌else◌}
use Rattle.guppy_data.specs.declared.records.PackageRecord.{PackageRecord}
use Rattle.guppy_data.specs.declared.records.LinkRecord.{LinkRecord}
use Rattle.guppy_data.specs.declared.records.WorkspaceRecord.{WorkspaceRecord}
use Rattle.guppy_lines.specs.declared.fault.RunFault.{RunFault}
use Rattle.guppy_data.specs.declared.texts.error.Error.TheVariants.{UnknownPackageId, PackageGraphInternalError}
use Rattle.guppy_data.specs.declared.texts.fault.VerifyFault.TheVariants.{Cycle}
use Rattle.guppy_lines.specs.declared.fault.RunFault.TheVariants.{BadArguments, BadLine, Library}
use Rattle.guppy_lines.specs.RunFault.{cause_of, fault_text}
use Rattle.guppy_command.specs.Asked.{Asks, IsMisread}
use Rattle.guppy_command.specs.Grammar.{Program, Misread}
use Rattle.guppy_command.specs.Ids.{has_id}
use Rattle.guppy_lines.specs.declared.format.TheConstants.{OPTIONS, COMMANDS}
use Rattle.guppy_print.specs.Format.{Format}
use Rattle.guppy_lines.specs.Text.{IsAllGood, IsFirstBadLine, statements_of}
use Rattle.guppy_lines.specs.Records.{AreRecordsOf}

-- every line is good, and these are the records that they say
pub record SayRecords (input : List ℕ) (packages : List PackageRecord) (links : List LinkRecord)
    (workspace : WorkspaceRecord) : Type 0 where
  pub good : IsAllGood input
  pub said : AreRecordsOf (statements_of input) packages links workspace

-- the fault tells the first bad line
abbrev pub TellsBadLine : List ℕ → RunFault → Type 0
TellsBadLine input (BadLine number) = IsFirstBadLine input number
TellsBadLine input _ = ⊥

-- a word means the package whose ID it is
abbrev pub meant_by_id : List PackageRecord → List ℕ → List (List ℕ)
meant_by_id packages word = if has_id word packages then word ∷ [] else []

-- the options, which stand in front of a command, with the commands that take each, and the commands
abbrev pub lines_program : Program
lines_program = record {
  options = map (λ row. record {
    name = row.0.now;
    takes_value = is_some row.1;
    repeats = row.2;
    commands = option_map (λ commands. map (λ name. name.now) commands.now) row.3;
  }) OPTIONS.now;
  anywhere = false;
  commands = map (λ name. name.now) COMMANDS.now;
}

-- the arguments ask nothing, and are blamed for it
abbrev pub AreBad : (List ℕ → List ℕ → Type 0) → List (List ℕ) → RunFault → Type 0
AreBad has args fault =
    (fault ≡ BadArguments) × ((misread : Misread) × IsMisread has lines_program args misread)

-- lines say records, and nothing of what is declared beside links; a package is called by its ID
abbrev pub lines_format : Format RunFault
lines_format = record {
  says = λ details. SayRecords;
  refuses = λ details. TellsBadLine;
  declares = λ input from to. ⊥;
  asks = λ has. Asks has lines_program;
  misreads = AreBad;
  text = λ packages id. id;
  meant = meant_by_id;
  tells_unknown = λ packages word fault. fault ≡ Library (UnknownPackageId word);
  tells_cycle = λ ids round fault. fault ≡ Library (PackageGraphInternalError (Cycle ids));
  tells = λ fault cause text. (cause ≡ cause_of fault) × (text ≡ fault_text fault);
}
