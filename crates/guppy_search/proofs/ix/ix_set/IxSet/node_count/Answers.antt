use Rattle.std.proofs.Common.{sym}
use Rattle.guppy_search.proofs.Marks.{length-marks_of}
use Rattle.guppy_search.proofs.ix.ix_set.IxSet.node_count.Goals as goal

pub returns : goal.returns
returns g c = rw (← c.self.view_is) (sym (length-marks_of _ _))
