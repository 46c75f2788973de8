use Rattle.guppy.proofs.query.resolve.resolve_by_number.Goals as goal

pub returns-clause-judged : goal.returns-clause-judged
returns-clause-judged g c =
    let s = c.in_ok-included.ensures.judged in
    (s.0, rw c.from_included.ensures (rw (c.direction.ensures, c.dep_graph.ensures.links, c.graph-graph.ensures, c.initial_ixs.ensures.initials, c.query-query.ensures) at s.1), s.2)
