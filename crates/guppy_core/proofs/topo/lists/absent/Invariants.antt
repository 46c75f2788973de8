use Rattle.guppy_core.specs.Listing.{IsAbsence}
use Rattle.guppy_core.proofs.topo.lists.absent.Given as goal

abbrev pub invariant-loop-position : goal.invariant-loop-position
invariant-loop-position g l = IsAbsence l.set l.position l.list.items
