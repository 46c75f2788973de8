use Rattle.std.proofs.Common.{◌≡◌, sym, subst, ◌<◌, length, Some, slice_get}
use Rattle.guppy_search.specs.Links.{EndsBelow, seen_link}
use Rattle.guppy_graph.proofs.Lists.{All-slice_get}
use Rattle.guppy_graph.proofs.graph.RecordGraph.link_at.Goals as goal

pub link-requires : goal.link-requires
link-requires c = subst (λ g. c.args.number < length g.links) (sym c.self.view_is) c.requires

pub returns-clause-at : goal.returns-clause-at
returns-clause-at c = subst (λ g. slice_get g.links c.args.number ≡ Some (seen_link c.link.result)) c.self.view_is c.link.ensures.link

pub returns-clause-from : goal.returns-clause-from
returns-clause-from c =
    let graph = c.self.inside.graph in
    let below = All-slice_get (EndsBelow (length graph.nodes)) graph.links c.args.number (seen_link c.link.result) c.link.ensures.graph.ends c.link.ensures.link in
    subst (λ g. c.link.result.from < length g.packages) c.self.view_is below.0

pub returns-clause-to : goal.returns-clause-to
returns-clause-to c =
    let graph = c.self.inside.graph in
    let below = All-slice_get (EndsBelow (length graph.nodes)) graph.links c.args.number (seen_link c.link.result) c.link.ensures.graph.ends c.link.ensures.link in
    subst (λ g. c.link.result.to < length g.packages) c.self.view_is below.1
