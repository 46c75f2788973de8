use Rattle.std.proofs.Common.{◌<◌, length, map}
use Rattle.guppy_core.specs.Cycle.{IsCycle}
use Rattle.guppy_graph.specs.Ids.{ix_position}
use Rattle.guppy_graph.specs.Ordered.{FirmStep}
use Rattle.guppy_graph.proofs.Rounds.{each_position, cycle_below}
use Rattle.guppy_graph.proofs.graph.RecordGraph.firm_cycle.Goals as goal

pub ids_at-requires : goal.ids_at-requires
ids_at-requires c =
    let g = c.args.self.now in
    let found = rw c.in-Some.is at c.in_ok-ixs.ensures.cycle in
    let same = c.new-counted.ensures.graph in
    let cycle : IsCycle (FirmStep g.links) (map ix_position c.in-Some.ixs.items) = rw (same, c.dep_graph.ensures.links) at found in
    rw c.as_slice.ensures.value (each_position (λ p. p < length g.packages) c.in-Some.ixs.items (cycle_below g c.dep_graph.ensures.graph (map ix_position c.in-Some.ixs.items) cycle))
