use Rattle.guppy_core.proofs.topo.index.topological_order.Given as goal

abbrev pub ghost-roots : goal.ghost-roots
ghost-roots g a = g.kept

abbrev pub ghost-finish_order : goal.ghost-finish_order
ghost-finish_order g a = g.kept
