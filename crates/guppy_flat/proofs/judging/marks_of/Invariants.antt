use Rattle.std.proofs.Common.{◌≡◌, ◌↔◌, ℕ, length, take}
use Rattle.std.specs.Prelude.{Contains}
use Rattle.guppy_search.specs.IxSet.{IsIn}
use Rattle.guppy_flat.specs.Judging.{EachOnce}
use Rattle.guppy_flat.proofs.judging.marks_of.Given as goal

abbrev pub invariant-loop-place : goal.invariant-loop-place
invariant-loop-place l = record {
  size : length l.marks.items ≡ l.count;
  once : EachOnce (take l.place l.shown);
  marked : (n : ℕ) → IsIn l.marks.items n ↔ Contains (take l.place l.shown) n;
}
