use Rattle.std.proofs.Common.{All, take}
use Rattle.guppy_graph.specs.Targets.{AreTargetsDistinct}
use Rattle.guppy_graph.specs.Indexes.{AreTargetIndexes}
use Rattle.guppy_graph.proofs.build.distinct_targets.Given as goal

abbrev pub invariant-loop-package : goal.invariant-loop-package
invariant-loop-package l = AreTargetIndexes (take l.package l.packages) l.indexes.items × All AreTargetsDistinct (take l.package l.packages)
