use Rattle.std.proofs.Common.{◌≡◌, List, map, take}
use Rattle.guppy_data.specs.declared.records.PackageRecord.{PackageRecord}
use Rattle.guppy_print.specs.Printed.{called}
use Rattle.guppy_print.proofs.print.texts_of.Given as goal

abbrev pub invariant-loop-id : goal.invariant-loop-id
invariant-loop-id g l = (packages : List PackageRecord) → g.F.Format.are_names l.names packages
    → map (λ text. text.now) l.texts.items ≡ map (called l.options (g.F.Format.format.text packages)) (map (λ id. id.now) (take l.id-index l.ids))
