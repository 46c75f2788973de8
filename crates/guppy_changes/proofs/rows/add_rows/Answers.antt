use Rattle.guppy_built.specs.Rows.{row_of}
use Rattle.guppy_changes.specs.Shown.{RowMarks, all_shown}
use Rattle.guppy_changes.proofs.Steps.{adds_of_none, adds_map_more, adds_map_all}
use Rattle.guppy_changes.proofs.rows.add_rows.Goals as goal

pub loop-row-init : goal.loop-row-init
loop-row-init c = adds_of_none RowMarks (all_shown c.args.marks.now.items)

pub loop-row-preserved : goal.loop-row-preserved
loop-row-preserved c =
    adds_map_more {R = RowMarks} row_of c.args.rows.now c.loop-row.row-index c.row-item.result c.loop-row-test.true c.row-item.is c.loop-row.invariant c.in_ok-add_row.ensures

pub returns : goal.returns
returns c = adds_map_all {R = RowMarks} row_of c.args.rows.now c.loop-row.row-index c.loop-row-test.false c.loop-row.invariant
