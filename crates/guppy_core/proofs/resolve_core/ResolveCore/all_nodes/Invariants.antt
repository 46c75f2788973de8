use Rattle.std.proofs.Common.{◌≡◌, ℕ, ◌<◌, length}
use Rattle.guppy_search.specs.IxSet.{IsIn}
use Rattle.guppy_core.proofs.resolve_core.ResolveCore.all_nodes.Given as goal

abbrev pub invariant-loop-position : goal.invariant-loop-position
invariant-loop-position g l = record {
  size : length l.included ≡ l.count;
  filled : (p : ℕ) → p < l.position → IsIn l.included p;
}
