use Rattle.guppy.proofs.set.PackageSet.partition.Goals as goal

pub returns-clause-asked : goal.returns-clause-asked
returns-clause-asked g c = let s = c.in_ok-halves.ensures.asked in (s.0, _, s.1, s.2, s.3, s.4)
