use Rattle.guppy_features.specs.Adding.{Adds, OfBelow}
use Rattle.guppy_builds.specs.Building.{question_of}
use Rattle.guppy_builds.specs.Parts.{OfPackage}
use Rattle.guppy_builds.proofs.building.Building.add_packages.Given as goal

abbrev pub invariant-loop-position : goal.invariant-loop-position
invariant-loop-position l = Adds (OfBelow l.position (OfPackage (question_of l.self))) l.initial.rules.items l.rules.items
