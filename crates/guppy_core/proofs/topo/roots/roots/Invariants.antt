use Rattle.guppy_core.proofs.topo.roots.roots.Given as goal

abbrev pub ghost-entered : goal.ghost-entered
ghost-entered g a = g.kept
