use Rattle.std.proofs.Common.{◌≡◌, ℕ, ◌<◌, ◌≤◌, length, false}
use Rattle.guppy_search.specs.IxSet.{has}
use Rattle.guppy_flat.proofs.marks.set_of.Given as goal

abbrev pub invariant-loop-position : goal.invariant-loop-position
invariant-loop-position l = record {
  size : length l.set ≡ length l.marks;
  copied : (p : ℕ) → p < l.position → has l.set p ≡ has l.marks p;
  left : (p : ℕ) → l.position ≤ p → has l.set p ≡ false;
}
