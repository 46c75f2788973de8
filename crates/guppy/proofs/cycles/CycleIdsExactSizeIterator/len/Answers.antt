use Rattle.std.proofs.Common.{◌∙◌, sym}
use Rattle.guppy.proofs.CyclicComponents.{cycle_left-count}
use Rattle.guppy.proofs.cycles.CycleIdsExactSizeIterator.len.Goals as goal

pub returns-clause-value : goal.returns-clause-value
returns-clause-value c = c.len.ensures.value ∙ sym (cycle_left-count c.args.self.now)
