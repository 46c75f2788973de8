use Rattle.std.proofs.Common.{◌≡◌, map, take}
use Rattle.guppy_core.specs.Cycle.{from_first}
use Rattle.guppy_core.proofs.PathSearch.{positions}
use Rattle.guppy_core.proofs.topo.cycle.positions_from.Given as goal

abbrev pub invariant-loop-frame : goal.invariant-loop-frame
invariant-loop-frame g l = map g.Ix.IndexType.index_of l.list.items ≡ from_first l.first (positions (take l.frame-index l.frames))
