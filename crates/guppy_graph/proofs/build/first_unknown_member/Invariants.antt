use Rattle.std.proofs.Common.{All, take}
use Rattle.guppy_graph.specs.Ids.{IsKnown}
use Rattle.guppy_graph.proofs.build.first_unknown_member.Given as goal

abbrev pub invariant-loop-index : goal.invariant-loop-index
invariant-loop-index l = All (IsKnown l.ids.packages.now) (take l.index l.members)
