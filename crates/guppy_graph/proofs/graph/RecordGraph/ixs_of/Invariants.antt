use Rattle.std.proofs.Common.{map, take}
use Rattle.std.specs.List.{AllZip}
use Rattle.guppy_graph.specs.Ids.{HasId, ix_position}
use Rattle.guppy_graph.proofs.graph.RecordGraph.ixs_of.Given as goal

abbrev pub invariant-loop-id : goal.invariant-loop-id
invariant-loop-id l = AllZip (HasId l.self.packages) (take l.id-index l.ids) (map ix_position l.ixs.items)
