use Rattle.std.proofs.Common.{false, map, refl}
use Rattle.std.specs.Prelude.{IsTrue}
use Rattle.guppy_features.specs.Dependencies.{seen_dependency}
use Rattle.guppy_builds.specs.Building.{question_of}
use Rattle.guppy_builds.specs.Required.{HasOn}
use Rattle.guppy_builds.proofs.Searches.{one_found, none_more, none_all, not_so}
use Rattle.guppy_builds.proofs.building.Building.have_on.Goals as goal

pub loop-dependency-preserved : goal.loop-dependency-preserved
loop-dependency-preserved c =
    let P = HasOn (question_of c.args.self) (map seen_dependency c.args.dependencies.now) c.args.name.now c.args.feature.now in
    none_more seen_dependency P c.args.dependencies.now c.loop-dependency.dependency-index c.dependency-item.result c.loop-dependency-test.true c.dependency-item.is c.loop-dependency.invariant (not_so c.has_on.result c.has_on.ensures c.if-has_on.false)

pub returns-then-has_on : goal.returns-then-has_on
returns-then-has_on c =
    let P = HasOn (question_of c.args.self) (map seen_dependency c.args.dependencies.now) c.args.name.now c.args.feature.now in
    (λ _. one_found seen_dependency P c.args.dependencies.now c.loop-dependency.dependency-index c.dependency-item.result c.loop-dependency-test.true c.dependency-item.is (c.has_on.ensures.0 c.if-has_on.true), λ _. refl)

pub returns : goal.returns
returns c =
    let P = HasOn (question_of c.args.self) (map seen_dependency c.args.dependencies.now) c.args.name.now c.args.feature.now in
    (λ (e : IsTrue false). absurd cc, λ h. absurd (none_all seen_dependency P c.args.dependencies.now c.loop-dependency.dependency-index c.loop-dependency-test.false c.loop-dependency.invariant h))
