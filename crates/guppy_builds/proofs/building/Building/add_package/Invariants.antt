use Rattle.guppy_features.specs.Adding.{Adds, OfBelow}
use Rattle.guppy_builds.specs.declared.build.BuildPlace.TheVariants.{Target}
use Rattle.guppy_builds.specs.Building.{question_of}
use Rattle.guppy_builds.specs.Parts.{OfPackageAt}
use Rattle.guppy_builds.proofs.building.Building.add_package.Given as goal

abbrev pub invariant-loop-place : goal.invariant-loop-place
invariant-loop-place l = Adds (OfBelow l.place (λ i. OfPackageAt (question_of l.self) l.position (Target i))) l.initial.rules.items l.rules.items
