use Rattle.guppy_search.proofs.Repeats.{IsMarked}
use Rattle.guppy_search.proofs.graph_core.build.first_again.Given as goal

abbrev pub invariant-loop-place : goal.invariant-loop-place
invariant-loop-place l = IsMarked l.far_ends l.mark l.marks l.place
