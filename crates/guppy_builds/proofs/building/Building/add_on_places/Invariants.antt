use Rattle.guppy_features.specs.Adding.{Adds, OfBelow}
use Rattle.guppy_builds.specs.Building.{question_of}
use Rattle.guppy_builds.specs.Follows.{target_place}
use Rattle.guppy_builds.specs.Parts.{OnPlace}
use Rattle.guppy_builds.proofs.building.Building.add_on_places.Given as goal

abbrev pub invariant-loop-place : goal.invariant-loop-place
invariant-loop-place l = Adds (OfBelow l.place (λ i. OnPlace (question_of l.self) l.position (target_place l.target i))) l.initial.rules.items l.rules.items
