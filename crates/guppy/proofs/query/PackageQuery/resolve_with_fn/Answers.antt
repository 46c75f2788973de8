use Rattle.guppy.proofs.query.PackageQuery.resolve_with_fn.Goals as goal

pub returns-clause-judged : goal.returns-clause-judged
returns-clause-judged g c = let s = c.in_ok-set.ensures.judged in (s.0, _, s.1, s.2)
