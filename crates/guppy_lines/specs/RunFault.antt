-- What a fault of the program prints, the status that it ends with, and its cause.
use Rattle.std.specs.Prelude.{ℕ, List, ◌++◌, codes, string_bytes}
use Rattle.std.specs.Fmt.{decimal}
use Rattle.guppy_data.specs.Texts.{error_text}
use Rattle.guppy_process.specs.Fault.{build_cause_of, build_fault_text}
use Rattle.guppy_process.specs.Cause.{Cause, library, bad_arguments, no_walk, unpublishable, build, bad_before, bad_input, input_failed, output_failed}
use Rattle.guppy_lines.specs.declared.fault.RunFault.{RunFault}
use Rattle.guppy_lines.specs.declared.fault.RunFault.TheVariants.{Library, BadArguments, NoWalk, Unpublishable, Build, Before, BadLine, InputFailed, OutputFailed}

abbrev pub fault_text : RunFault → List ℕ
fault_text (Library error) = error_text error
fault_text BadArguments = codes "bad arguments"
fault_text (NoWalk from to) =
    codes "no links lead from " ++ string_bytes from ++ codes " to " ++ string_bytes to
fault_text (Unpublishable member needed) = string_bytes member
    ++ (codes " can't be published: it needs " ++ (string_bytes needed ++ codes ", which isn't publishable"))
fault_text (Build fault) = build_fault_text fault
fault_text (Before text) = codes "the state before: " ++ string_bytes text
fault_text (BadLine number) = codes "bad line " ++ decimal number
fault_text InputFailed = codes "input failed"
fault_text OutputFailed = codes "output failed"

abbrev pub status_of : RunFault → ℕ
status_of (Library error) = 1
status_of (NoWalk from to) = 1
status_of (Unpublishable member needed) = 1
status_of (Build fault) = 1
status_of _ = 2

abbrev pub cause_of : RunFault → Cause
cause_of (Library error) = library error
cause_of BadArguments = bad_arguments
cause_of (NoWalk from to) = no_walk (string_bytes from) (string_bytes to)
cause_of (Unpublishable member needed) = unpublishable (string_bytes member) (string_bytes needed)
cause_of (Build fault) = build (build_cause_of fault)
cause_of (Before text) = bad_before (string_bytes text)
cause_of (BadLine number) = bad_input
cause_of InputFailed = input_failed
cause_of OutputFailed = output_failed
