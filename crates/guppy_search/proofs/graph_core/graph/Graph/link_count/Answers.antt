use Rattle.std.proofs.Common.{length, ap, arith}
use Rattle.guppy_search.specs.Graph.{GraphValue}
use Rattle.guppy_search.proofs.LinkEnds.{length-between}
use Rattle.guppy_search.proofs.graph_core.graph.Graph.link_count.Goals as goal

pub returns : goal.returns
returns g c =
    let same = ap (λ (v : GraphValue g.row.G-Node.Denot g.row.G-Edge.Denot). length v.links) c.self.view_is in
    let count = length-between c.self.inside.ends.items c.self.inside.edges.items c.self.invariant.paired in
    let len = c.len.ensures in
    let ok = c.self.inside.ends.ok in
    omega arith
