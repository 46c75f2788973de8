use Rattle.std.proofs.Common.{map, take}
use Rattle.std.specs.List.{AllZip}
use Rattle.json.specs.Value.{value_view}
use Rattle.guppy_metadata.specs.Dependency.{IsDeclared}
use Rattle.guppy_metadata.proofs.declared.declared_dependencies.Given as goal

abbrev pub invariant-loop-index : goal.invariant-loop-index
invariant-loop-index l = AllZip (IsDeclared l.details) (map value_view (take l.index l.item-items)) l.declared.items
