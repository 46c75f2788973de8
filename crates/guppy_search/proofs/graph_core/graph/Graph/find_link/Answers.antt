use Rattle.guppy_search.proofs.Ends.{beside_len}
use Rattle.guppy_search.specs.declared.ix.direction.DependencyDirection.TheVariants.{Forward}
use Rattle.guppy_search.proofs.RowSearch.{found_link}
use Rattle.guppy_search.proofs.graph_core.graph.Graph.find_link.Goals as goal

pub number_to-requires : goal.number_to-requires
number_to-requires g c =
    let from = c.index-from.ensures.position in
    rw (c.far_ends_at-far_ends.ensures.ends, c.links_at-row.ensures.links) (beside_len c.args.self.now.links Forward _)

pub returns : goal.returns
returns g c =
    let row = c.links_at-row.ensures.links in
    let far = c.far_ends_at-far_ends.ensures.ends in
    let from = c.index-from.ensures.position in
    let to = c.index.ensures.position in
    rw (← from, ← to) (found_link c.args.self.now.links c.index-from.result c.index.result c.number_to.result (rw (row, far) at c.number_to.ensures))
