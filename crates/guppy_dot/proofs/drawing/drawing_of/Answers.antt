use Rattle.std.proofs.Common.{map}
use Rattle.guppy_dot.specs.Dot.{IsDrawn, edge_shown, node_shown}
use Rattle.guppy_dot.proofs.Drawings.{set_drawn}
use Rattle.guppy_dot.proofs.drawing.drawing_of.Goals as goal

pub returns-clause-ok : goal.returns-clause-ok
returns-clause-ok c =
    let both = set_drawn c.in_ok-set.set c.args.graph.now (IsDrawn c.args.graph.now c.args.ids.now) (map node_shown c.in_ok-nodes.nodes.items) (map edge_shown c.in_ok-edges.edges.items)
    c.in_ok-set.ensures.graph c.in_ok-set.ensures.exact c.in_ok-nodes.ensures c.in_ok-edges.ensures.ok in
    record { nodes = both.0; edges = both.1 }
