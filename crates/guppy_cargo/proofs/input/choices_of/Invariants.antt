use Rattle.std.proofs.Common.{◌≡◌, List, map, take}
use Rattle.guppy_data.specs.declared.records.PackageRecord.{PackageRecord}
use Rattle.guppy_arguments.specs.Names.{AreNames, text}
use Rattle.guppy_cargo.proofs.input.choices_of.Given as goal

abbrev pub invariant-loop-id : goal.invariant-loop-id
invariant-loop-id l = (packages : List PackageRecord) → AreNames l.names packages
    → map (λ t. t.now) l.texts.items ≡ map (text packages) (take l.id-index l.ids)
