use Rattle.guppy_built.proofs.Seen.{needed_more}
use Rattle.guppy_built.proofs.askers.needed_positions.Goals as goal

pub loop-way-preserved : goal.loop-way-preserved
loop-way-preserved c = needed_more c.args.ways.now c.loop-way.way-index _ _ _ c.loop-way-test.true c.in_ok-add_positions.ensures c.loop-way.invariant
