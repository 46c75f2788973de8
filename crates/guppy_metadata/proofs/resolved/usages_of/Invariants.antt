use Rattle.std.proofs.Common.{map, take}
use Rattle.std.specs.List.{AllZip}
use Rattle.json.specs.Value.{value_view}
use Rattle.guppy_metadata.specs.Links.{IsUsage}
use Rattle.guppy_metadata.proofs.resolved.usages_of.Given as goal

abbrev pub invariant-loop-index : goal.invariant-loop-index
invariant-loop-index l = AllZip IsUsage (map value_view (take l.index l.item-items)) l.usages.items
