use Rattle.std.proofs.Common.{◌∙◌, length, refl, sym, ap, arith}
use Rattle.std.specs.List.{concat}
use Rattle.std.proofs.lemmas.List.{length-map}
use Rattle.guppy_flat.proofs.Places.{all_written}
use Rattle.guppy_flat.proofs.ordering.order.Goals as goal

pub returns-clause-order : goal.returns-clause-order
returns-clause-order c =
    let blocks = c.in_ok-components.components in
    let ordered = c.in_ok-components.ensures in
    let listed = c.in_ok-positions.ensures in
    let count = ordered.components_are.listing.count in
    let nodes = c.in_ok-graph.ensures.nodes in
    let kept = c.write.auto.list in
    let mapped = length-map c.in_ok-positions.positions.items _ ∙ refl in
    let as_long = sym mapped ∙ ap length listed in (
      blocks,
      rw (← c.in_ok-graph.ensures.links, ← nodes) ordered,
      all_written _ c.write.new.list (concat blocks) (rw (c.as_slice.ensures.value, listed) at c.write.ensures) (omega arith),
    )
