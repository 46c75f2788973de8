use Rattle.std.proofs.Common.{length, arith}
use Rattle.std.proofs.lemmas.List.{length-map}
use Rattle.guppy_flat.proofs.FlatCycles.{cycle_fits}
use Rattle.guppy_flat.proofs.cycles.cycle.Goals as goal

pub write-requires : goal.write-requires
write-requires c =
    let graph = c.in_ok-graph.graph in
    let nodes = c.in_ok-graph.ensures.nodes in
    let found = rw (c.in-Some.is, c.new-counted.ensures.graph) at c.in_ok-find_cycle.ensures.cycle in
    let fits = simp length-map at (cycle_fits graph.links (length graph.nodes) c.in_ok-graph.ensures.graph.ends _ found) in
    rw c.as_slice.ensures.value (omega arith)
