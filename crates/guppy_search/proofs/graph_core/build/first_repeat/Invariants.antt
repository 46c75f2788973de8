use Rattle.std.proofs.Common.{◌≡◌, length}
use Rattle.guppy_search.proofs.Repeats.{IsScanned}
use Rattle.guppy_search.proofs.graph_core.build.first_repeat.Given as goal

abbrev pub invariant-loop-position : goal.invariant-loop-position
invariant-loop-position g l = record { len : length l.marks.items ≡ l.count; scanned : IsScanned l.links l.position l.lowest l.marks.items }
