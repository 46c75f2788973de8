use Rattle.std.proofs.Common.{map}
use Rattle.guppy_core.specs.Listing.{IsAbsence}
use Rattle.guppy_core.proofs.Roots.{left_out}
use Rattle.guppy_core.proofs.scc.externals.unentered.Given as goal

abbrev pub invariant-loop-position : goal.invariant-loop-position
invariant-loop-position g l = IsAbsence (left_out l.set l.numbers l.entered) l.position (map g.G.Ix.IndexType.index_of l.list.items)
