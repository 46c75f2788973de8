use Rattle.std.specs.Prelude.{true}
use Rattle.guppy_core_memory_cases.proofs.ixs.any_cycle.Given as goal

abbrev pub ghost-find_cycle : goal.ghost-find_cycle
ghost-find_cycle a = λ _. true
