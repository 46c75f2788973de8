use Rattle.std.proofs.Common.{◌≡◌, ℕ, ◌+◌, List, ◌++◌, length, take, vec_capacity}
use Rattle.guppy_search.specs.IxSet.{member_count}
use Rattle.guppy_search.specs.Buffered.{Adds}
use Rattle.guppy_search.proofs.dfs.buffered.follow_all.Given as goal

abbrev pub invariant-loop-number : goal.invariant-loop-number
invariant-loop-number g l = record {
  size : length l.set ≡ length l.fn.set;
  capacity : vec_capacity l.waiting ≡ vec_capacity l.fn.waiting;
  balance : length l.waiting.items + member_count l.fn.set ≡ length l.fn.waiting.items + member_count l.set;
  added : (added : List ℕ) × (l.waiting.items ≡ l.fn.waiting.items ++ added)
      × Adds l.direction l.graph.links (take l.number-index l.number-items) l.fn.set added l.set;
}
