use Rattle.std.proofs.Common.{◌≡◌, length}
use Rattle.guppy_core_memory_cases.proofs.positions.set_of.Given as goal

abbrev pub invariant-loop-position : goal.invariant-loop-position
invariant-loop-position l = length l.set ≡ length l.graph.nodes
