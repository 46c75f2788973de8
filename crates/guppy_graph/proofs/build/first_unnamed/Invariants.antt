use Rattle.std.proofs.Common.{All, take}
use Rattle.guppy_graph.specs.Targets.{IsNamed}
use Rattle.guppy_graph.proofs.build.first_unnamed.Given as goal

abbrev pub invariant-loop-place : goal.invariant-loop-place
invariant-loop-place l = All IsNamed (take l.place l.targets)
