use Rattle.std.proofs.Common.{◌≡◌, ◌-◌, length}
use Rattle.guppy_graph.specs.Ids.{ix_position}
use Rattle.guppy_extras.specs.Nodes.{AreElsewhere}
use Rattle.guppy_extras.specs.Searches.{nodes_of, IsUnderWay}
use Rattle.guppy_extras.proofs.why.search.Search.find.Given as goal

abbrev pub invariant-places : goal.invariant-places
invariant-places l = record {
  start : l.self.start ≡ l.initial.self.start;
  under_way : IsUnderWay l.self l.place;
  elsewhere : AreElsewhere (nodes_of l.self) l.place (ix_position l.position);
}

abbrev pub decreases-places : goal.decreases-places
decreases-places l = length l.self.seen - l.place
