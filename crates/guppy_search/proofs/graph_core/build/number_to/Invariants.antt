use Rattle.guppy_search.specs.Pairs.{NoneTo}
use Rattle.guppy_search.proofs.graph_core.build.number_to.Given as goal

abbrev pub invariant-loop-place : goal.invariant-loop-place
invariant-loop-place l = NoneTo l.far_ends l.to l.place
