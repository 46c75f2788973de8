use Rattle.std.proofs.Common.{false, refl}
use Rattle.std.specs.Prelude.{IsTrue}
use Rattle.guppy_features.specs.Dependencies.{seen_dependency}
use Rattle.guppy_builds.specs.Building.{question_of}
use Rattle.guppy_builds.specs.Required.{Uses}
use Rattle.guppy_builds.proofs.Searches.{one_found, none_more, none_all, not_so}
use Rattle.guppy_builds.proofs.building.Building.use_one.Goals as goal

pub loop-dependency-preserved : goal.loop-dependency-preserved
loop-dependency-preserved c =
    let P = Uses (question_of c.args.self) c.args.side c.args.to in
    none_more seen_dependency P c.args.dependencies.now c.loop-dependency.dependency-index c.dependency-item.result c.loop-dependency-test.true c.dependency-item.is c.loop-dependency.invariant (not_so c.uses.result c.uses.ensures c.if-uses.false)

pub returns-then-uses : goal.returns-then-uses
returns-then-uses c =
    let P = Uses (question_of c.args.self) c.args.side c.args.to in
    (λ _. one_found seen_dependency P c.args.dependencies.now c.loop-dependency.dependency-index c.dependency-item.result c.loop-dependency-test.true c.dependency-item.is (c.uses.ensures.0 c.if-uses.true), λ _. refl)

pub returns : goal.returns
returns c =
    let P = Uses (question_of c.args.self) c.args.side c.args.to in
    (λ (e : IsTrue false). absurd cc, λ h. absurd (none_all seen_dependency P c.args.dependencies.now c.loop-dependency.dependency-index c.loop-dependency-test.false c.loop-dependency.invariant h))
