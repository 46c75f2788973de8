use Rattle.std.proofs.Common.{◌≡◌, length, map}
use Rattle.guppy_command.specs.Asked.{all_judged}
use Rattle.guppy_command.specs.Shown.{argument_shown, row_shown}
use Rattle.guppy_command.proofs.asked.judge_all.Given as goal

abbrev pub invariant-loop-rest : goal.invariant-loop-rest
invariant-loop-rest l = all_judged (map row_shown l.program.options.now) l.command (map argument_shown l.given) ≡ all_judged (map row_shown l.program.options.now) l.command (map argument_shown l.rest)

abbrev pub decreases-loop-rest : goal.decreases-loop-rest
decreases-loop-rest l = length l.rest
