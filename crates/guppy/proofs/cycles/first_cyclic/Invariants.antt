use Rattle.std.proofs.Common.{length}
use Rattle.guppy.proofs.CyclicComponents.{ArePassedOver}
use Rattle.guppy.proofs.cycles.first_cyclic.Given as goal

abbrev pub invariant-loop-component : goal.invariant-loop-component
invariant-loop-component l = ArePassedOver l.graph.links (length l.graph.packages) l.fn.components l.components

abbrev pub decreases-loop-component : goal.decreases-loop-component
decreases-loop-component l = length l.components
