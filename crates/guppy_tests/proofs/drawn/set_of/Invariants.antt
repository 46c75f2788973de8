use Rattle.std.proofs.Common.{◌≡◌, length}
use Rattle.guppy_tests.proofs.drawn.set_of.Given as goal

abbrev pub invariant-loop-position : goal.invariant-loop-position
invariant-loop-position g l = length l.set ≡ length l.graph.nodes
