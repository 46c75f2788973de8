use Rattle.std.specs.Prelude.{not}
use Rattle.guppy_core_memory_cases.proofs.ixs.firm_cycle.Given as goal

abbrev pub ghost-find_cycle : goal.ghost-find_cycle
ghost-find_cycle a = not
