use Rattle.std.proofs.Common.{◌≡◌, ◌+◌, ◌≤◌, true, length}
use Rattle.guppy_search.specs.Reach.{Step}
use Rattle.guppy_search.specs.Links.{links_at}
use Rattle.guppy_search.specs.declared.ix.direction.DependencyDirection.TheVariants.{Reverse}
use Rattle.guppy_core.specs.Cost.{links_left}
use Rattle.guppy_core.proofs.StackSearch.{fuel}
use Rattle.guppy_core.proofs.Costs.{owed, degree}
use Rattle.guppy_core.proofs.RowTurns.{Between, Within}
use Rattle.guppy_core.proofs.Claims.{From, Numbering}
use Rattle.guppy_core.proofs.scc.claim.claim.Given as goal

abbrev pub invariant-loop-k : goal.invariant-loop-k
invariant-loop-k g l = record {
  inside : Within Reverse l.fn.graph.graph (From l.fn.seen l.start) l.position (links_at Reverse l.fn.graph.graph.links l.position) l.k (fuel l.initial.seen l.initial.stack.items) l.seen l.stack.items;
  numbering : Numbering (length l.fn.graph.graph.nodes) l.number l.fn.seen l.fn.numbers.items l.seen l.numbers.items;
  graph : l.graph.graph ≡ l.fn.graph.graph;
  looked : l.graph.looks ≡ l.initial.graph.looks + l.k;
  paid : owed (degree Reverse l.fn.graph.graph.links) l.seen l.stack.items ≡ owed (degree Reverse l.fn.graph.graph.links) l.initial.seen l.initial.stack.items;
}

abbrev pub invariant-loop-position : goal.invariant-loop-position
invariant-loop-position g l = record {
  between : Between (Step Reverse (λ _. true) l.fn.graph.graph.links) (From l.fn.seen l.start) (length l.fn.graph.graph.nodes) l.seen l.stack.items;
  numbering : Numbering (length l.fn.graph.graph.nodes) l.number l.fn.seen l.fn.numbers.items l.seen l.numbers.items;
  graph : l.graph.graph ≡ l.fn.graph.graph;
  paid : l.graph.looks + owed (degree Reverse l.fn.graph.graph.links) l.seen l.stack.items ≡ l.fn.graph.looks + links_left Reverse l.fn.graph.graph.links l.fn.seen;
  counted : l.fn.graph.looks ≤ l.graph.looks;
}

abbrev pub decreases-loop-position : goal.decreases-loop-position
decreases-loop-position g l = fuel l.seen l.stack.items
