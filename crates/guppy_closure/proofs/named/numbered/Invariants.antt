use Rattle.std.proofs.Common.{◌≡◌, ◌≤◌, length, take, vec_len, vec_capacity}
use Rattle.guppy_closure.specs.Named.{StandsAt, AreSame}
use Rattle.guppy_closure.proofs.named.numbered.Given as goal

abbrev pub invariant-clauses : goal.invariant-clauses
invariant-clauses g l = record {
  same : AreSame (StandsAt l.names) (take l.clause-index l.clauses) l.numbered.items;
  used : vec_len l.numbered ≡ l.clause-index;
  room : length l.clauses ≤ vec_capacity l.numbered;
}
