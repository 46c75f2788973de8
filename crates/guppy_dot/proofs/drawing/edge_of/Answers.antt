use Rattle.std.proofs.Common.{◌∙◌, ◌↔◌, subst, Bor}
use Rattle.std.specs.Prelude.{IsTrue, slice_get}
use Rattle.guppy_graph.specs.Cycles.{AreCyclic}
use Rattle.guppy_graph.specs.Graph.{GraphData}
use Rattle.guppy_graph.specs.Ids.{HasId}
use Rattle.guppy.specs.Views.{link_graph, link_number, package_position}
use Rattle.guppy_dot.specs.Dot.{Edge}
use Rattle.guppy_dot.proofs.Drawings.{link_there}
use Rattle.guppy_dot.proofs.drawing.edge_of.Goals as goal

pub returns : goal.returns
returns c =
    let g = (link_graph c.args.link).now in
    let from = c.id_of-from.result.now in
    let to = c.id_of-to.result.now in
    let edge : Edge = record { from = from; to = to; style = c.style_of.result; is_cyclic = c.are_cyclic.result } in
    link_there (slice_get g.links (link_number c.args.link)) g edge (package_position c.from.result) (package_position c.to.result) c.from.ensures.position c.to.ensures.position c.style_of.ensures
    (subst (λ (v : Bor GraphData). HasId v.now.packages from (package_position c.from.result)) c.from.ensures.graph c.id_of-from.ensures)
    (subst (λ (v : Bor GraphData). HasId v.now.packages to (package_position c.to.result)) c.to.ensures.graph c.id_of-to.ensures)
    (subst (λ (v : Bor GraphData). IsTrue c.are_cyclic.result ↔ AreCyclic v.now from to) (c.graph.ensures ∙ c.from-2.ensures.graph) c.are_cyclic.ensures)
