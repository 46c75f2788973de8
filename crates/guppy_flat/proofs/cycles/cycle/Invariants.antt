use Rattle.guppy_flat.proofs.cycles.cycle.Given as goal

abbrev pub ghost-find_cycle : goal.ghost-find_cycle
ghost-find_cycle a = λ flag. flag
