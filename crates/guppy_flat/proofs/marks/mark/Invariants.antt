use Rattle.std.proofs.Common.{◌≡◌, ℕ, ◌<◌, length}
use Rattle.guppy_search.specs.IxSet.{has}
use Rattle.guppy_flat.proofs.marks.mark.Given as goal

abbrev pub invariant-loop-position : goal.invariant-loop-position
invariant-loop-position l = record {
  size : length l.marks ≡ length l.set;
  copied : (p : ℕ) → p < l.position → has l.marks p ≡ has l.set p;
}
