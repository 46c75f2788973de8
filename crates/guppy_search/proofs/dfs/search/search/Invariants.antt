use Rattle.std.proofs.Common.{◌≡◌, ℕ, ◌+◌, ◌-◌, ◌≤◌, Bool, List, [], length, vec_capacity}
use Rattle.guppy_search.specs.IxSet.{member_count}
use Rattle.guppy_search.specs.Resolve.{Visits}
use Rattle.guppy_search.specs.Searching.{Searching}
use Rattle.guppy_search.proofs.dfs.search.search.Given as goal

abbrev pub invariant-positions : goal.invariant-positions
invariant-positions g l = record {
  size : length l.set ≡ length l.graph.nodes;
  room : length l.graph.nodes ≤ vec_capacity l.waiting;
  same_place : g.V.LinkVisitor.place l.visitor ≡ g.V.LinkVisitor.place l.fn.visitor;
  searched : (trace : List (ℕ × Bool))
      × Searching l.direction l.graph.links l.initials trace l.set l.waiting.items []
      × Visits g.V.LinkVisitor.visits l.fn.visitor trace l.visitor;
}

-- what waits, and what is not in the set yet
abbrev pub decreases-positions : goal.decreases-positions
decreases-positions g l = length l.waiting.items + (length l.set - member_count l.set)
