use Rattle.std.proofs.Common.{All, take}
use Rattle.guppy_built.specs.Refused.{IsOfMember}
use Rattle.guppy_built.proofs.members.first_other.Given as goal

abbrev pub invariant-loop-place : goal.invariant-loop-place
invariant-loop-place l = All (IsOfMember l.graph.packages) (take l.place l.ids)
