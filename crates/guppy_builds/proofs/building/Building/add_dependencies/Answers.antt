use Rattle.guppy_features.specs.Dependencies.{seen_dependency}
use Rattle.guppy_features.proofs.Adding.{adds_map_more, adds_map_all}
use Rattle.guppy_builds.proofs.building.Building.add_dependencies.Goals as goal

pub loop-dependency-preserved : goal.loop-dependency-preserved
loop-dependency-preserved c = adds_map_more seen_dependency c.args.dependencies.now c.loop-dependency.dependency-index c.dependency-item.result c.loop-dependency-test.true c.dependency-item.is c.loop-dependency.invariant c.in_ok-add_dependency.ensures

pub returns : goal.returns
returns c = adds_map_all seen_dependency c.args.dependencies.now c.loop-dependency.dependency-index c.loop-dependency-test.false c.loop-dependency.invariant
