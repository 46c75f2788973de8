use Rattle.std.proofs.Common.{map, take}
use Rattle.std.specs.List.{AllZip}
use Rattle.guppy_graph.specs.Ids.{HasId, ix_position}
use Rattle.guppy_graph.proofs.graph.RecordGraph.ids_at.Given as goal

abbrev pub invariant-loop-ix : goal.invariant-loop-ix
invariant-loop-ix l = AllZip (HasId l.self.packages) l.ids.items (map ix_position (take l.ix-index l.ixs))
