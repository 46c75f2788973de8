use Rattle.std.proofs.Common.{◌<◌, All, length}
use Rattle.guppy_core_memory_cases.proofs.ixs.ixs_of.Given as goal

abbrev pub invariant-loop-position : goal.invariant-loop-position
invariant-loop-position l = All (λ ix. ix.0 < length l.graph.nodes) l.ixs.items
