use Rattle.std.proofs.Common.{map, take}
use Rattle.guppy_features.specs.Dependencies.{seen_dependency}
use Rattle.guppy_builds.specs.Building.{question_of}
use Rattle.guppy_builds.specs.Required.{HasOne, HasOn}
use Rattle.guppy_builds.proofs.building.Building.have_on.Given as goal

abbrev pub invariant-loop-dependency : goal.invariant-loop-dependency
invariant-loop-dependency l = HasOne (map seen_dependency (take l.dependency-index l.dependencies)) (HasOn (question_of l.self) (map seen_dependency l.dependencies) l.name l.feature) → ⊥
