use Rattle.std.proofs.Common.{map, take}
use Rattle.std.specs.List.{AllZip}
use Rattle.json.specs.Value.{value_view}
use Rattle.guppy_metadata.specs.Target.{IsTarget}
use Rattle.guppy_metadata.proofs.target.build_targets.Given as goal

abbrev pub invariant-loop-index : goal.invariant-loop-index
invariant-loop-index l = AllZip IsTarget (map value_view (take l.index l.item-items)) l.targets.items
