use Rattle.std.proofs.Common.{◌≡◌, ◌+◌, ◌≤◌, length, drop, vec_capacity}
use Rattle.guppy_closure.specs.Counts.{given_count}
use Rattle.guppy_closure.specs.Closing.{Closing}
use Rattle.guppy_closure.proofs.closing.Closed.begin.Given as goal

abbrev pub invariant-clauses : goal.invariant-clauses
invariant-clauses l = record {
  count : length l.closed.facts ≡ l.count;
  closing : Closing l.clauses l.closed.facts l.closed.found.items 0 (l.closed.looks + given_count (drop l.number l.clauses)) (λ n. l.number ≤ n);
  room : l.count ≤ vec_capacity l.closed.found;
}
