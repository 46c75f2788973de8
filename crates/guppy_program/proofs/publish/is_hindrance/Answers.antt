use Rattle.std.proofs.Common.{◌≡◌, subst, Bor}
use Rattle.std.specs.Prelude.{◌&&◌, not, slice_get, IsSomeAnd}
use Rattle.guppy_graph.specs.Graph.{GraphData}
use Rattle.guppy.specs.Views.{link_graph, link_number, package_position}
use Rattle.guppy_program.specs.Publish.{is_held_back, is_hindrance_at}
use Rattle.guppy_program.proofs.Hindrances.{hindering, not_hindering}
use Rattle.guppy_program.proofs.publish.is_hindrance.Goals as goal

pub returns-then-not-dev_only : goal.returns-then-not-dev_only
returns-then-not-dev_only c =
    let g = (link_graph c.args.link).now in
    let held = c.is_held_back.result in
    let stays = subst (λ (h : Bor GraphData). IsSomeAnd (slice_get h.now.packages (package_position c.to.result)) (λ r. held ≡ is_held_back r)) c.to.ensures.graph c.is_held_back.ensures in
    subst (λ b. (not b && held) ≡ is_hindrance_at g (link_number c.args.link)) c.if-not-dev_only.true
    (hindering g.packages (slice_get g.links (link_number c.args.link)) c.dev_only.result held (package_position c.to.result) c.dev_only.ensures c.to.ensures.position stays)

pub returns-else-not-dev_only : goal.returns-else-not-dev_only
returns-else-not-dev_only c =
    let g = (link_graph c.args.link).now in
    not_hindering g.packages (slice_get g.links (link_number c.args.link)) c.dev_only.result c.dev_only.ensures c.if-not-dev_only.false
