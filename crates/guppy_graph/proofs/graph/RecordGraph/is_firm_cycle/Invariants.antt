use Rattle.std.proofs.Common.{length, map}
use Rattle.guppy_graph.specs.Ids.{ix_position}
use Rattle.guppy_graph.specs.Ordered.{FirmStep}
use Rattle.guppy_graph.proofs.Rounds.{Rounds}
use Rattle.guppy_graph.proofs.graph.RecordGraph.is_firm_cycle.Given as goal

abbrev pub invariant-loop-ix : goal.invariant-loop-ix
invariant-loop-ix l = Rounds (FirmStep l.self.links) (length l.self.packages) (map ix_position l.ixs) l.ix-index (ix_position l.before) l.seen
