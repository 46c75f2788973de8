use Rattle.std.proofs.Common.{◌*◌, ◌≤◌, take, vec_len}
use Rattle.guppy_closure.specs.Named.{HasNames}
use Rattle.guppy_closure.proofs.named.listed_names.Given as goal

abbrev pub invariant-clauses : goal.invariant-clauses
invariant-clauses g l = record {
  names : HasNames (take l.clause-index l.clauses) l.names.items;
  used : vec_len l.names ≤ 3 * l.clause-index;
}
