use Rattle.guppy_graph.specs.Accepted.{distinct_ids}
use Rattle.guppy.proofs.NamedPositions.{included_at}
use Rattle.guppy.proofs.set.PackageSet.has_id.Goals as goal

pub returns-in-Some : goal.returns-in-Some
returns-in-Some c =
    let found = c.in-Some.ensures in
    rw (← c.self.view_is) (included_at _ (found.graph.accepted distinct_ids) c.self.inside.core _ c.in-Some.ix.0 found.found _ c.contains.ensures)
