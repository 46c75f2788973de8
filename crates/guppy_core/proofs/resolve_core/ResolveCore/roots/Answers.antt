use Rattle.guppy_core.proofs.resolve_core.ResolveCore.roots.Goals as goal

pub returns-clause-reach : goal.returns-clause-reach
returns-clause-reach g c = rw c.self.view_is at c.externals.ensures.reach
