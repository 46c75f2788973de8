use Rattle.std.proofs.Common.{map, take}
use Rattle.guppy_built.specs.Rows.{row_of}
use Rattle.guppy_changes.specs.Adding.{Adds, OfSome}
use Rattle.guppy_changes.specs.Shown.{RowMarks, all_shown}
use Rattle.guppy_changes.proofs.rows.add_rows.Given as goal

abbrev pub invariant-loop-row : goal.invariant-loop-row
invariant-loop-row l = Adds (OfSome (map row_of (take l.row-index l.rows)) RowMarks) (all_shown l.initial.marks.items) (all_shown l.marks.items)
