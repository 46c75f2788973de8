use Rattle.std.proofs.Common.{◌≡◌, ◌≤◌, ◌++◌, length, vec_capacity}
use Rattle.guppy_search.specs.IxSet.{positions_in}
use Rattle.guppy_search.proofs.dfs.buffered.reachable_buffered_mut.Given as goal

abbrev pub invariant-loop-ix : goal.invariant-loop-ix
invariant-loop-ix g l = record {
  listed : l.waiting.items ++ l.ix-iterator ≡ positions_in l.initials;
  room : length l.graph.nodes ≤ vec_capacity l.waiting;
}
