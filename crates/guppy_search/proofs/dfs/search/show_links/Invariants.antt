use Rattle.std.proofs.Common.{◌≡◌, ℕ, ◌+◌, Bool, List, drop, length, vec_capacity}
use Rattle.guppy_search.specs.IxSet.{member_count}
use Rattle.guppy_search.specs.Resolve.{Visits}
use Rattle.guppy_search.specs.Searching.{Shows}
use Rattle.guppy_search.proofs.dfs.search.show_links.Given as goal

abbrev pub invariant-links : goal.invariant-links
invariant-links g l = record {
  size : length l.set ≡ length l.graph.nodes;
  same_place : g.V.LinkVisitor.place l.visitor ≡ g.V.LinkVisitor.place l.fn.visitor;
  balance : length l.waiting.items + member_count l.fn.set ≡ length l.fn.waiting.items + member_count l.set;
  capacity : vec_capacity l.waiting ≡ vec_capacity l.fn.waiting;
  shown : (shown : List (ℕ × Bool)) × Visits g.V.LinkVisitor.visits l.fn.visitor shown l.visitor
      × Shows l.fn.direction l.graph.links shown l.fn.set l.fn.waiting.items l.row l.set l.waiting.items (drop l.place l.row);
}
