-- Faults: why there is no answer, what they print, and the status that the program ends with.
use Rattle.std.specs.Prelude.{ℕ, List, ◌++◌, codes, string_bytes}
use Rattle.guppy_data.specs.declared.texts.error.Error.TheVariants.{OutOfMemory, UnknownPackageId, PackageGraphInternalError}
use Rattle.guppy_data.specs.declared.texts.fault.VerifyFault.TheVariants.{Cycle as GraphCycle}
use Rattle.guppy_data.specs.Texts.{error_text}
use Rattle.guppy_metadata.specs.Fault.{fault_text as metadata_text}
use Rattle.guppy_metadata.specs.declared.fault.MetadataFault.{MetadataFault}
use Rattle.guppy_metadata.specs.declared.fault.MetadataFault.TheVariants.{OutOfMemory as MetadataMemory}
use Rattle.guppy_process.specs.Fault.{build_fault_text, cause_shown}
use Rattle.guppy_process.specs.Cause.{Cause, library, bad_arguments, ambiguous, bad_input}
use Rattle.guppy_process.specs.declared.fault.Fault.TheVariants.{Library, BadArguments, NoWalk, Unpublishable, Build, Before, InputFailed, OutputFailed}
use Rattle.guppy_arguments.specs.declared.fault.CargoFault.{CargoFault}
use Rattle.guppy_arguments.specs.declared.fault.CargoFault.TheVariants.{Program, Ambiguous, Unknown, Cycle, Arguments, Metadata, NoText}
use Rattle.guppy_arguments.specs.Told.{arguments_text}

abbrev pub cause_of : CargoFault → Cause
cause_of (Program fault) = cause_shown fault
cause_of (Ambiguous word choices) = ambiguous (string_bytes word) (string_bytes choices)
cause_of (Unknown word nearest) = library (UnknownPackageId (string_bytes word))
cause_of (Cycle ids round) = library (PackageGraphInternalError (GraphCycle ids))
cause_of (Arguments fault) = bad_arguments
cause_of (Metadata fault) = bad_input
cause_of NoText = bad_input

-- 2 for bad arguments, and for files and streams that fail, else 1
abbrev pub status_of : CargoFault → ℕ
status_of (Program (Library error)) = 1
status_of (Program (NoWalk from to)) = 1
status_of (Program (Unpublishable member needed)) = 1
status_of (Program (Build fault)) = 1
status_of (Program (Before text)) = 1
status_of (Program fault) = 2
status_of (Arguments fault) = 2
status_of _ = 1

abbrev pub fault_text : CargoFault → List ℕ
fault_text (Program (Library error)) = error_text error
fault_text (Program BadArguments) = codes "the arguments are no UTF-8"
fault_text (Program (NoWalk from to)) =
    codes "no links lead from " ++ string_bytes from ++ codes " to " ++ string_bytes to
fault_text (Program (Unpublishable member needed)) = string_bytes member
    ++ (codes " can't be published: it needs " ++ (string_bytes needed ++ codes ", which isn't publishable"))
fault_text (Program (Build fault)) = build_fault_text fault
fault_text (Program (Before text)) = codes "the state before: " ++ string_bytes text
fault_text (Ambiguous word choices) =
    codes "ambiguous package " ++ string_bytes word ++ codes ": give " ++ string_bytes choices
fault_text (Unknown word nearest) =
    codes "unknown package " ++ (string_bytes word ++ (codes ": the nearest is " ++ string_bytes nearest))
fault_text (Cycle ids round) = codes "cycle over links that are not dev-only: " ++ string_bytes round
fault_text (Arguments fault) = arguments_text fault
fault_text (Metadata fault) = metadata_text fault
fault_text NoText = codes "the input is no UTF-8"
fault_text (Program InputFailed) = codes "input failed"
fault_text (Program OutputFailed) = codes "output failed"

-- a fault of the JSON, or want of memory
abbrev pub of_metadata : MetadataFault → CargoFault
of_metadata MetadataMemory = Program (Library OutOfMemory)
of_metadata fault = Metadata fault
