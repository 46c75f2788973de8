use Rattle.std.proofs.Common.{◌<◌, All}
use Rattle.guppy_core_tests.proofs.positions.ixs_of.Given as goal

abbrev pub invariant-loop-position : goal.invariant-loop-position
invariant-loop-position g l = All (λ ix. ix.0 < l.count) l.ixs.items
