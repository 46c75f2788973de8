use Rattle.std.proofs.Common.{List, Result, length, map, string_bytes}
use Rattle.guppy_command.specs.Grammar.{Argument, Misread, Reads, all_before}
use Rattle.guppy_command.specs.Shown.{argument_shown, program_shown}
use Rattle.guppy_command.proofs.grammar.read.Given as goal

abbrev pub invariant-loop-rest : goal.invariant-loop-rest
invariant-loop-rest l = (outcome : Result (List Argument) Misread) → Reads (program_shown l.program) (map string_bytes l.rest) outcome
    → Reads (program_shown l.program) (map string_bytes l.words) (all_before (map argument_shown l.given.items) outcome)

abbrev pub decreases-loop-rest : goal.decreases-loop-rest
decreases-loop-rest l = length l.rest
