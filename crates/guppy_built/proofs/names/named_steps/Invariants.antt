use Rattle.std.proofs.Common.{◌≡◌, map, take}
use Rattle.std.specs.List.{filter_map}
use Rattle.guppy_built.specs.Names.{named_step, step_shown}
use Rattle.guppy_built.proofs.names.named_steps.Given as goal

abbrev pub invariant-loop-reason : goal.invariant-loop-reason
invariant-loop-reason l = map step_shown l.steps.items ≡ filter_map (named_step l.graph) (map (λ r. r) (take l.reason-index l.reasons))
