use Rattle.std.proofs.Common.{◌≡◌, ℕ, ◌+◌, ◌-◌, ◌≤◌, List, [], length, vec_capacity}
use Rattle.guppy_search.specs.IxSet.{member_count}
use Rattle.guppy_search.specs.Buffered.{Question, Answers, Asks}
use Rattle.guppy_search.specs.Buffering.{Buffering}
use Rattle.guppy_search.proofs.dfs.buffered.search.Given as goal

abbrev pub invariant-positions : goal.invariant-positions
invariant-positions g l = record {
  size : length l.set ≡ length l.graph.nodes;
  room : length l.graph.nodes ≤ vec_capacity l.waiting;
  same_place : g.T.BufferedEdgeFilter.place l.filter ≡ g.T.BufferedEdgeFilter.place l.fn.filter;
  searched : (trace : List (Question × List ℕ))
      × Buffering l.direction l.graph.links l.fn.set trace l.set l.waiting.items []
      × Asks (Answers (g.T.BufferedEdgeFilter.discovers l.graph) (g.T.BufferedEdgeFilter.filters l.graph)) l.fn.filter trace l.filter;
}

-- what waits, and what is not in the set yet
abbrev pub decreases-positions : goal.decreases-positions
decreases-positions g l = length l.waiting.items + (length l.set - member_count l.set)
