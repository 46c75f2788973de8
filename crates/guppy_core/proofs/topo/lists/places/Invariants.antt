use Rattle.guppy_core.proofs.Listings.{ArePlaces}
use Rattle.guppy_core.proofs.topo.lists.places.Given as goal

abbrev pub invariant-loop-place : goal.invariant-loop-place
invariant-loop-place l = ArePlaces l.list l.place l.places.items
