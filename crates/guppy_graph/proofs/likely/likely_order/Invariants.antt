use Rattle.std.proofs.Common.{◌≡◌, map}
use Rattle.std.specs.List.{range_with_len}
use Rattle.guppy_graph.proofs.likely.likely_order.Given as goal

abbrev pub invariant-loop-position : goal.invariant-loop-position
invariant-loop-position l = map (λ rank. rank.1) l.ranks.items ≡ range_with_len 0 l.position
