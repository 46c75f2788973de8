use Rattle.guppy_core.proofs.Listings.{IsSetOf}
use Rattle.guppy_core.proofs.topo.lists.set_of.Given as goal

abbrev pub invariant-loop-position : goal.invariant-loop-position
invariant-loop-position g l = IsSetOf l.list l.node_count l.position-index l.set
