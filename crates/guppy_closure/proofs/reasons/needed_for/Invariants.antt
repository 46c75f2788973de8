use Rattle.std.proofs.Common.{◌≡◌, length, drop}
use Rattle.guppy_closure.specs.Needs.{Needs}
use Rattle.guppy_closure.proofs.reasons.needed_for.Given as goal

abbrev pub invariant-places : goal.invariant-places
invariant-places l = record {
  count : length l.needed ≡ length l.closed.facts;
  needs : Needs l.clauses (drop l.place l.closed.found.items) l.fact l.closed.facts l.needed;
}
