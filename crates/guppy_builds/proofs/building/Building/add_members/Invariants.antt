use Rattle.std.proofs.Common.{take}
use Rattle.guppy_features.specs.Adding.{Adds, OfSome}
use Rattle.guppy_builds.specs.Building.{question_of}
use Rattle.guppy_builds.specs.Parts.{OfMember}
use Rattle.guppy_builds.proofs.building.Building.add_members.Given as goal

abbrev pub invariant-loop-member : goal.invariant-loop-member
invariant-loop-member l = Adds (OfSome (take l.member-index l.members) (OfMember (question_of l.self))) l.initial.rules.items l.rules.items
