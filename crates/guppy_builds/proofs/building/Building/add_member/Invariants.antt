use Rattle.std.proofs.Common.{take}
use Rattle.guppy_features.specs.Adding.{Adds, OfSome}
use Rattle.guppy_builds.specs.Building.{question_of}
use Rattle.guppy_builds.specs.Parts.{OfTarget}
use Rattle.guppy_builds.proofs.building.Building.add_member.Given as goal

abbrev pub invariant-loop-target : goal.invariant-loop-target
invariant-loop-target l = Adds (OfSome (take l.target-index l.target-items) (OfTarget (question_of l.self) l.position)) l.initial.rules.items l.rules.items
