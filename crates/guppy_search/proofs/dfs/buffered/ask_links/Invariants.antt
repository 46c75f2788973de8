use Rattle.std.proofs.Common.{◌≡◌, ℕ, ◌+◌, List, drop, length, vec_capacity}
use Rattle.guppy_search.specs.IxSet.{member_count}
use Rattle.guppy_search.specs.Buffered.{Question, Answers, Asks}
use Rattle.guppy_search.specs.Buffering.{Takes}
use Rattle.guppy_search.proofs.dfs.buffered.ask_links.Given as goal

abbrev pub invariant-links : goal.invariant-links
invariant-links g l = record {
  size : length l.set ≡ length l.graph.nodes;
  same_place : g.T.BufferedEdgeFilter.place l.filter ≡ g.T.BufferedEdgeFilter.place l.fn.filter;
  balance : length l.waiting.items + member_count l.fn.set ≡ length l.fn.waiting.items + member_count l.set;
  capacity : vec_capacity l.waiting ≡ vec_capacity l.fn.waiting;
  asked : (asked : List (Question × List ℕ))
      × Asks (Answers (g.T.BufferedEdgeFilter.discovers l.graph) (g.T.BufferedEdgeFilter.filters l.graph)) l.fn.filter asked l.filter
      × Takes l.direction l.graph.links asked l.fn.set l.fn.waiting.items l.number-items l.set l.waiting.items (drop l.number-index l.number-items);
}
