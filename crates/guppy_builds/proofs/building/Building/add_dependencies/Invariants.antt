use Rattle.std.proofs.Common.{map, take}
use Rattle.guppy_features.specs.Adding.{Adds, OfSome}
use Rattle.guppy_features.specs.Dependencies.{seen_dependency}
use Rattle.guppy_builds.specs.Building.{question_of}
use Rattle.guppy_builds.specs.Parts.{OfDependency}
use Rattle.guppy_builds.proofs.building.Building.add_dependencies.Given as goal

abbrev pub invariant-loop-dependency : goal.invariant-loop-dependency
invariant-loop-dependency l = Adds (OfSome (map seen_dependency (take l.dependency-index l.dependencies)) (OfDependency (question_of l.self) l.place)) l.initial.rules.items l.rules.items
