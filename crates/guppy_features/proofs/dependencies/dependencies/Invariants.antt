use Rattle.std.proofs.Common.{◌≡◌, map, take, length, All}
use Rattle.std.specs.List.{flat_map}
use Rattle.guppy_features.specs.Dependencies.{seen_dependency, IsWithin}
use Rattle.guppy_features.proofs.LeavingLinks.{dependencies_at}
use Rattle.guppy_features.proofs.dependencies.dependencies.Given as goal

abbrev pub invariant-loop-number : goal.invariant-loop-number
invariant-loop-number l = record {
  gathered : map seen_dependency l.list.items ≡ flat_map (dependencies_at l.graph.links) (take l.number-index l.number-items);
  within : All (IsWithin (length l.graph.packages)) l.list.items;
}
