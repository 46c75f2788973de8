use Rattle.std.proofs.Common.{None, map, take}
use Rattle.json.specs.Value.{value_view}
use Rattle.guppy_metadata.specs.Target.{IsFirstLibrary}
use Rattle.guppy_metadata.proofs.target.first_library.Given as goal

abbrev pub invariant-loop-index : goal.invariant-loop-index
invariant-loop-index l = IsFirstLibrary (map value_view (take l.index l.item-items)) None
