use Rattle.guppy_flat.proofs.search.reach.Goals as goal

pub returns-clause-reached : goal.returns-clause-reached
returns-clause-reached c = rw (c.mark.ensures, ← c.in_ok-graph.ensures.links) c.in_ok-set.ensures.reached
