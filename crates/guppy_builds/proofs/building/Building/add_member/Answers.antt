use Rattle.guppy_features.proofs.Adding.{adds_take_more}
use Rattle.guppy_builds.proofs.building.Building.add_member.Goals as goal

pub loop-target-preserved : goal.loop-target-preserved
loop-target-preserved c =
    adds_take_more c.deref-target-items.result.now c.loop-target.target-index c.target-item.result c.loop-target-test.true c.target-item.is c.loop-target.invariant c.in_ok-add_target.ensures
