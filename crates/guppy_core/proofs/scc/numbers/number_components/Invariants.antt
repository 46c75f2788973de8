use Rattle.std.proofs.Common.{◌≡◌, ◌+◌, ◌*◌, ◌≤◌, true, [], length}
use Rattle.guppy_search.specs.Reach.{Step}
use Rattle.guppy_search.specs.declared.ix.direction.DependencyDirection.TheVariants.{Forward, Reverse}
use Rattle.guppy_core.specs.Cost.{links_left}
use Rattle.guppy_core.proofs.ComponentNumbers.{SecondPass}
use Rattle.guppy_core.proofs.scc.numbers.number_components.Given as goal

abbrev pub invariant-loop-root : goal.invariant-loop-root
invariant-loop-root g l = record {
  numbering : SecondPass (Step Forward (λ _. true) l.fn.graph.graph.links) (Step Reverse (λ _. true) l.fn.graph.graph.links) (length l.fn.graph.graph.nodes) l.root-items l.root-index l.seen l.numbers.items l.count;
  empty : l.stack.items ≡ [];
  graph : l.graph.graph ≡ l.fn.graph.graph;
  paid : l.graph.looks + links_left Reverse l.fn.graph.graph.links l.seen ≡ l.fn.graph.looks + 2 * length l.fn.graph.graph.links;
  counted : l.fn.graph.looks ≤ l.graph.looks;
}

abbrev pub ghost-finish_order : goal.ghost-finish_order
ghost-finish_order g a = λ _. true
