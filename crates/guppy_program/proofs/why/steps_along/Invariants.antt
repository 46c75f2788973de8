use Rattle.std.proofs.Common.{map, take}
use Rattle.guppy.specs.Views.{link_number}
use Rattle.guppy_print.specs.Shown.{step_shown}
use Rattle.guppy_program.specs.Steps.{AreStepsAlong}
use Rattle.guppy_program.proofs.why.steps_along.Given as goal

abbrev pub invariant-loop-link : goal.invariant-loop-link
invariant-loop-link l = AreStepsAlong l.graph l.from (map link_number (take l.link-index l.walk)) (map step_shown l.steps.items)
