use Rattle.std.proofs.Common.{◌<◌, All, length, take}
use Rattle.std.specs.List.{AllZip}
use Rattle.guppy_graph.specs.Ids.{HasId}
use Rattle.guppy_built.proofs.members.positions_of.Given as goal

abbrev pub invariant-loop-id : goal.invariant-loop-id
invariant-loop-id l = record {
  named : AllZip (HasId l.graph.packages) (take l.id-index l.ids) l.positions.items;
  within : All (λ p. p < length l.graph.packages) l.positions.items;
}
