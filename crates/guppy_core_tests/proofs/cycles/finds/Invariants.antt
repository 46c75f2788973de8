use Rattle.std.specs.Prelude.{not}
use Rattle.guppy_core_tests.proofs.cycles.finds.Given as goal

abbrev pub ghost-find_cycle : goal.ghost-find_cycle
ghost-find_cycle a = not
