use Rattle.std.proofs.Common.{◌≡◌, arith}
use Rattle.guppy_features.proofs.Adding.{adds_below_more, adds_below_all}
use Rattle.guppy_builds.specs.Building.{question_of}
use Rattle.guppy_builds.specs.Places.{platform_count}
use Rattle.guppy_builds.proofs.building.Building.add_on_places.Goals as goal

pub loop-place-preserved : goal.loop-place-preserved
loop-place-preserved c = adds_below_more c.loop-place.place c.loop-place.invariant (rw c.target_place.ensures at c.in_ok-add_on_place.ensures)

pub returns : goal.returns
returns c =
    let same : c.loop-place.place ≡ platform_count (question_of c.args.self) = omega arith in
    adds_below_all c.loop-place.place (platform_count (question_of c.args.self)) same c.loop-place.invariant
