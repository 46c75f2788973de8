use Rattle.guppy_core.proofs.topo.index.TopoWithCycles.new.Given as goal

abbrev pub ghost-topological_order : goal.ghost-topological_order
ghost-topological_order g a = g.kept
