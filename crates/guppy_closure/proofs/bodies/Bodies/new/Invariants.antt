use Rattle.std.proofs.Common.{◌≡◌, ◌*◌, ◌≤◌, length, take, vec_len, vec_capacity}
use Rattle.guppy_closure.specs.Places.{slots, AreLinked}
use Rattle.guppy_closure.proofs.bodies.Bodies.new.Given as goal

abbrev pub invariant-clauses : goal.invariant-clauses
invariant-clauses l = record {
  count : length l.bodies.last.items ≡ l.count;
  linked : AreLinked (slots (take l.clause-index l.clauses)) l.bodies.last.items l.bodies.earlier.items;
  used : vec_len l.bodies.earlier ≡ 2 * l.clause-index;
  room : 2 * length l.clauses ≤ vec_capacity l.bodies.earlier;
}
