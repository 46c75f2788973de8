use Rattle.guppy_flat.proofs.ordering.components_of.Given as goal

abbrev pub ghost-new : goal.ghost-new
ghost-new a = λ flag. flag
