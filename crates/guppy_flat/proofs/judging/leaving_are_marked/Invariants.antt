use Rattle.std.proofs.Common.{◌↔◌, ℕ, ◌<◌}
use Rattle.guppy_search.specs.IxSet.{IsIn}
use Rattle.guppy_search.specs.Resolve.{LeavesOne}
use Rattle.guppy_flat.specs.Flat.{plain}
use Rattle.guppy_flat.proofs.judging.leaving_are_marked.Given as goal

abbrev pub invariant-loop-number : goal.invariant-loop-number
invariant-loop-number l = (n : ℕ) → n < l.number → IsIn l.marks n ↔ LeavesOne l.direction (plain l.links) (IsIn l.set) n
