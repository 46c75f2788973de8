use Rattle.std.proofs.Common.{◌≡◌, ◌++◌, List, map}
use Rattle.guppy_data.specs.Component.{part_shown}
use Rattle.guppy_data.specs.declared.records.BuildTargetRecord.{BuildTargetRecord}
use Rattle.guppy_data.specs.Utf8Path.{path_text}
use Rattle.guppy.specs.TargetIterators.{targets_left}
use Rattle.guppy_folders.specs.Folders.{lists_in}
use Rattle.guppy_folders.specs.Places.{MeetsOne}
use Rattle.guppy_affected.specs.Folders.{OneElsewhere}
use Rattle.guppy_affected.proofs.elsewhere.has_one_elsewhere.Given as goal

-- none of the targets that were seen lies elsewhere
abbrev pub invariant-loop-target : goal.invariant-loop-target
invariant-loop-target l = (seen : List BuildTargetRecord) × (targets_left l.fn.targets ≡ seen ++ targets_left l.target-iterator)
    × (OneElsewhere (path_text l.root) (map part_shown l.own) (λ folder. MeetsOne folder (lists_in l.places)) seen → ⊥)
