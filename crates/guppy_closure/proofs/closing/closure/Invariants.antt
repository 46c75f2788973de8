use Rattle.std.proofs.Common.{◌≡◌, ◌-◌, ◌≤◌, length, vec_capacity}
use Rattle.guppy_closure.specs.Closing.{Closing, IsNone}
use Rattle.guppy_closure.proofs.closing.closure.Given as goal

abbrev pub invariant-facts : goal.invariant-facts
invariant-facts l = record {
  count : length l.closed.facts ≡ l.count;
  closing : Closing l.clauses l.closed.facts l.closed.found.items l.next l.closed.looks IsNone;
  room : l.count ≤ vec_capacity l.closed.found;
}

-- how many facts are still to be followed, at most
abbrev pub decreases-facts : goal.decreases-facts
decreases-facts l = l.count - l.next
