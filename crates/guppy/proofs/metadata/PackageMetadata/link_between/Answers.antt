use Rattle.std.proofs.Common.{◌≡◌, slice_get}
use Rattle.guppy_graph.specs.Ids.{ix_position, HasId}
use Rattle.guppy_graph.specs.Accepted.{distinct_ids}
use Rattle.guppy_graph.proofs.Lists.{some_of, of_some}
use Rattle.guppy_graph.proofs.PackageIds.{position_is}
use Rattle.guppy_search.specs.Links.{near_end, far_end}
use Rattle.guppy.specs.Views.{graph_of, package_position}
use Rattle.guppy.proofs.metadata.PackageMetadata.link_between.Goals as goal

pub returns-in-None-clause-found : goal.returns-in-None-clause-found
returns-in-None-clause-found c n leads =
    let g = (graph_of c.args.self).now in
    let d = c.args.direction in
    let l = some_of (slice_get g.links n) (λ l. (near_end d l ≡ package_position c.args.self) × HasId g.packages c.args.other_id.now (far_end d l)) leads in
    let there = position_is g.packages (c.in_ok-other.ensures.graph.accepted distinct_ids) c.args.other_id.now (far_end d l.0) (ix_position c.in_ok-other.other) l.2.1 c.in_ok-other.ensures.found in
    c.in-None.ensures n (of_some (slice_get g.links n) (λ l. (near_end d l ≡ package_position c.args.self) × (far_end d l ≡ ix_position c.in_ok-other.other)) l.0 l.1 (l.2.0, there))
