use Rattle.guppy.proofs.query.PackageQuery.resolve.Goals as goal

pub returns-clause-reached : goal.returns-clause-reached
returns-clause-reached c =
    let h = c.in_ok-core.ensures.reached in
    rw (c.dep_graph.ensures.links, c.graph-graph.ensures, c.initial_ixs.ensures.initials, c.direction.ensures) at h
