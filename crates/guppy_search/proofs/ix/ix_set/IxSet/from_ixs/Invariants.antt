use Rattle.std.proofs.Common.{◌≡◌, ℕ, length, map}
use Rattle.std.specs.Prelude.{◌↔◌, Contains}
use Rattle.guppy_search.specs.IxSet.{IsIn}
use Rattle.guppy_search.proofs.ix.ix_set.IxSet.from_ixs.Given as goal

abbrev pub invariant-loop-ix : goal.invariant-loop-ix
invariant-loop-ix g l =
    (goal.iterator-loop-ix g).can_next l.ix-iterator ×
    (goal.iterator-loop-ix g).is_finite l.ix-iterator ×
    (length l.set ≡ l.node_count) ×
    ((p : ℕ) → IsIn l.set p ↔ Contains (map g.G.Ix.IndexType.index_of l.yielded) p)
