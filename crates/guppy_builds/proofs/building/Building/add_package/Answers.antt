use Rattle.std.proofs.Common.{◌≡◌, arith}
use Rattle.std.proofs.lemmas.Result.{on_ok_weaker}
use Rattle.guppy_features.specs.Adding.{Adds}
use Rattle.guppy_features.proofs.Adding.{adds_then, adds_below_more, adds_below_all}
use Rattle.guppy_builds.specs.declared.build.BuildPlace.TheVariants.{Host}
use Rattle.guppy_builds.specs.Building.{question_of}
use Rattle.guppy_builds.specs.Places.{platform_count}
use Rattle.guppy_builds.specs.Parts.{OfPackageAt}
use Rattle.guppy_builds.proofs.building.Building.add_package.Goals as goal

pub loop-place-preserved : goal.loop-place-preserved
loop-place-preserved c = adds_below_more c.loop-place.place c.loop-place.invariant c.in_ok-add_package_at.ensures

pub returns : goal.returns
returns c =
    let same : c.loop-place.place ≡ platform_count (question_of c.args.self) = omega arith in
    let targets = adds_below_all c.loop-place.place (platform_count (question_of c.args.self)) same c.loop-place.invariant in
    on_ok_weaker c.add_package_at-2.result (λ (host : Adds (OfPackageAt (question_of c.args.self) c.args.position Host) c.loop-place.rules.items c.add_package_at-2.new.rules.items). adds_then targets host) c.add_package_at-2.ensures
