use Rattle.std.proofs.Common.{◌≡◌, List, map, take, string_bytes}
use Rattle.guppy_data.specs.declared.records.PackageRecord.{PackageRecord}
use Rattle.guppy_command.specs.Printed.{line_end, lines_of}
use Rattle.guppy_print.specs.Printed.{called, packages_text}
use Rattle.guppy_print.proofs.print.lines_of_rows.Given as goal

abbrev pub invariant-loop-row : goal.invariant-loop-row
invariant-loop-row g l = (packages : List PackageRecord) → g.F.Format.are_names l.names packages
    → string_bytes l.text ≡ lines_of (line_end l.options) (map (packages_text (called l.options (g.F.Format.format.text packages))) (map (λ row. map (λ id. id.now) row.items) (take l.row-index l.rows)))
