use Rattle.std.proofs.Common.{All, take}
use Rattle.guppy_graph.specs.Targets.{AreTargetsNamed}
use Rattle.guppy_graph.proofs.build.first_with_unnamed_target.Given as goal

abbrev pub invariant-loop-position : goal.invariant-loop-position
invariant-loop-position l = All AreTargetsNamed (take l.position l.packages)
