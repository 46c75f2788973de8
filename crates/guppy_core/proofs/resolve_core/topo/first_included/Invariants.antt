use Rattle.std.proofs.Common.{◌≡◌, ◌<◌, length}
use Rattle.std.specs.Prelude.{All}
use Rattle.std.specs.List.{filter}
use Rattle.guppy_search.specs.IxSet.{has}
use Rattle.guppy_core.proofs.resolve_core.topo.first_included.Given as goal

abbrev pub invariant-loop-ix : goal.invariant-loop-ix
invariant-loop-ix g l = record {
  same : filter (has l.included) l.nodes.left ≡ filter (has l.included) l.fn.nodes.left;
  below : All (λ p. p < length l.included) l.nodes.left;
}

abbrev pub decreases-loop-ix : goal.decreases-loop-ix
decreases-loop-ix g l = length l.nodes.left
