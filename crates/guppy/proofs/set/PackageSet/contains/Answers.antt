use Rattle.guppy_graph.specs.Accepted.{distinct_ids}
use Rattle.guppy.proofs.NamedPositions.{included_at}
use Rattle.guppy.proofs.set.PackageSet.contains.Goals as goal

pub returns-clause-known : goal.returns-clause-known
returns-clause-known c = rw (← c.self.view_is) (c.in_ok-ix.ix.0, c.in_ok-ix.ensures.found)

pub returns-clause-answer : goal.returns-clause-answer
returns-clause-answer c =
    let found = c.in_ok-ix.ensures in
    rw (← c.self.view_is) (included_at _ (found.graph.accepted distinct_ids) c.self.inside.core _ c.in_ok-ix.ix.0 found.found _ c.contains.ensures)
