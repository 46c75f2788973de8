use Rattle.std.proofs.Common.{◌≡◌, List, map, take, string_bytes}
use Rattle.guppy_built.specs.Names.{step_shown}
use Rattle.guppy_command.specs.Printed.{line_end, lines_of}
use Rattle.guppy_data.specs.declared.records.PackageRecord.{PackageRecord}
use Rattle.guppy_print.specs.BuildLines.{step_text}
use Rattle.guppy_print.specs.Printed.{called}
use Rattle.guppy_print.proofs.print_builds.lines_of_reasons.Given as goal

abbrev pub invariant-loop-step : goal.invariant-loop-step
invariant-loop-step g l = (packages : List PackageRecord) → g.F.Format.are_names l.names packages
    → string_bytes l.text ≡ lines_of (line_end l.options) (map (step_text (called l.options (g.F.Format.format.text packages))) (map step_shown (take l.step-index l.steps)))
