use Rattle.std.proofs.Common.{length, map}
use Rattle.guppy_core.proofs.Listings.{IsSetOf}
use Rattle.guppy_flat.proofs.sets.mark_each.Given as goal

abbrev pub invariant-loop-position : goal.invariant-loop-position
invariant-loop-position g l = IsSetOf (map g.Ix.IndexType.index_of l.positions) (length l.fn.marks) l.position-index l.marks
