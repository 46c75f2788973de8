use Rattle.guppy_search.proofs.Repeats.{none_marked}
use Rattle.guppy_search.proofs.graph_core.build.first_again.Goals as goal

pub loop-place-init : goal.loop-place-init
loop-place-init c = none_marked c.args.far_ends.now c.args.mark c.args.marks.now c.requires.unused

pub returns-clause-used : goal.returns-clause-used
returns-clause-used c = c.loop-place.invariant.used

pub returns-clause-len : goal.returns-clause-len
returns-clause-len c = c.loop-place.auto.marks
