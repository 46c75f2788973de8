use Rattle.std.proofs.Common.{take}
use Rattle.guppy_changes.specs.Adding.{Adds, OfSome}
use Rattle.guppy_changes.specs.Changes.{edges}
use Rattle.guppy_changes.specs.Shown.{LinkMarks, all_shown}
use Rattle.guppy_changes.proofs.links.add_links.Given as goal

abbrev pub invariant-loop-number : goal.invariant-loop-number
invariant-loop-number l = Adds (OfSome (edges (take l.number l.graph.links)) LinkMarks) (all_shown l.initial.marks.items) (all_shown l.marks.items)
