use Rattle.std.proofs.Common.{◌≡◌, List, map, take, string_bytes}
use Rattle.guppy_data.specs.declared.records.PackageRecord.{PackageRecord}
use Rattle.guppy_print.specs.Printed.{called}
use Rattle.guppy_print.proofs.GrowingLines.{arrowed}
use Rattle.guppy_program.proofs.verify.round_of.Given as goal

abbrev pub invariant-loop-id : goal.invariant-loop-id
invariant-loop-id g l = (packages : List PackageRecord) → g.F.Format.are_names l.names packages
    → string_bytes l.round ≡ arrowed (map (called l.options (g.F.Format.format.text packages)) (take l.id-index l.ids))
