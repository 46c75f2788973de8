use Rattle.std.proofs.Common.{◌↔◌, subst, Bor}
use Rattle.std.specs.Prelude.{IsTrue}
use Rattle.guppy_graph.specs.Cycles.{AreCyclic}
use Rattle.guppy_graph.specs.Graph.{GraphData}
use Rattle.guppy_dot.proofs.Drawings.{member_there}
use Rattle.guppy_dot.proofs.drawing.node_of.Goals as goal

pub returns : goal.returns
returns c =
    let id = c.id_of-id.result.now in
    record {
      id_is = c.id_of-id.ensures;
      member = member_there _ c.in_workspace.result c.in_workspace.ensures;
      cyclic = subst (λ (g : Bor GraphData). IsTrue c.are_cyclic.result ↔ AreCyclic g.now id id) c.graph.ensures c.are_cyclic.ensures;
    }
