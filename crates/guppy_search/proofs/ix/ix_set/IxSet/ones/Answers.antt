use Rattle.std.proofs.Common.{sym, ap, ◌∙◌}
use Rattle.guppy_search.specs.IxSet.{member_count}
use Rattle.guppy_search.proofs.Positions.{length-positions_from}
use Rattle.guppy_search.proofs.ix.ix_set.IxSet.ones.Goals as goal

pub invariant_of-result : goal.invariant_of-result
invariant_of-result g c = c.self.invariant.counted ∙ ap member_count c.self.view_is ∙ sym (length-positions_from 0 c.args.self.now)

pub returns-clause-count : goal.returns-clause-count
returns-clause-count g c = length-positions_from 0 c.args.self.now
