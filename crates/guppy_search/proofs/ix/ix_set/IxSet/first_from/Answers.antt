use Rattle.std.proofs.Common.{◌∙◌, arith}
use Rattle.guppy_search.proofs.Positions.{positions_from-end}
use Rattle.guppy_search.proofs.ix.ix_set.IxSet.first_from.Goals as goal

pub returns : goal.returns
returns g c = c.loop-position.invariant ∙ positions_from-end c.args.self.now c.loop-position.position (omega arith)
