use Rattle.std.proofs.Common.{◌≡◌, ◌↔◌, ◌≤◌, ◌<◌, ℕ, false, length, map}
use Rattle.guppy_search.specs.IxSet.{has}
use Rattle.guppy_core.specs.Sccs.{InOneBlock}
use Rattle.guppy_flat.specs.Ordering.{IsWithPrevious}
use Rattle.guppy_flat.proofs.ordering.mark_firsts.Given as goal

abbrev pub invariant-loop-place : goal.invariant-loop-place
invariant-loop-place g l = record {
  room : length l.positions ≤ length l.firsts;
  marked : (p : ℕ) → p < l.place → (has l.firsts p ≡ false) ↔ IsWithPrevious (InOneBlock l.sccs) (map g.Ix.IndexType.index_of l.positions) p;
}
