use Rattle.std.proofs.Common.{◌≡◌, List, map, take, string_bytes}
use Rattle.guppy_data.specs.declared.records.PackageRecord.{PackageRecord}
use Rattle.guppy_command.specs.Printed.{line_end, lines_of}
use Rattle.guppy_print.specs.Printed.{called, walk_text}
use Rattle.guppy_print.specs.Shown.{step_shown}
use Rattle.guppy_print.proofs.print.lines_of_steps.Given as goal

abbrev pub invariant-loop-step : goal.invariant-loop-step
invariant-loop-step g l = (packages : List PackageRecord) → g.F.Format.are_names l.names packages
    → string_bytes l.text ≡ lines_of (line_end l.options) (map (walk_text (called l.options (g.F.Format.format.text packages))) (map step_shown (take l.step-index l.steps)))
