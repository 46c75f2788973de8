use Rattle.std.proofs.Common.{◌≡◌, drop}
use Rattle.guppy_search.specs.IxSet.{positions_from}
use Rattle.guppy_search.proofs.ix.ix_set.IxSet.first_from.Given as goal

abbrev pub invariant-loop-position : goal.invariant-loop-position
invariant-loop-position g l = positions_from l.start (drop l.start l.self) ≡ positions_from l.position (drop l.position l.self)
