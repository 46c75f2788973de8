use Rattle.std.proofs.Common.{◌≡◌, ◌+◌, length, vec_capacity}
use Rattle.guppy_closure.specs.Closing.{Following}
use Rattle.guppy_closure.proofs.closing.Closed.follow.Given as goal

abbrev pub invariant-places : goal.invariant-places
invariant-places l = record {
  count : length l.self.facts ≡ length l.fn.self.facts;
  following : Following l.clauses l.self.facts l.self.found.items l.bodies.earlier.items (l.place + 1) l.self.looks l.mark;
  capacity : vec_capacity l.self.found ≡ vec_capacity l.fn.self.found;
}

abbrev pub decreases-places : goal.decreases-places
decreases-places l = l.mark
