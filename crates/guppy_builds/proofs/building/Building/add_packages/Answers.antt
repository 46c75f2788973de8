use Rattle.std.proofs.Common.{◌≡◌, arith, length}
use Rattle.guppy_features.proofs.Adding.{adds_below_more, adds_below_all}
use Rattle.guppy_builds.proofs.building.Building.add_packages.Goals as goal

pub loop-position-preserved : goal.loop-position-preserved
loop-position-preserved c = adds_below_more c.loop-position.position c.loop-position.invariant c.in_ok-add_package.ensures

pub returns : goal.returns
returns c =
    let same : c.loop-position.position ≡ length c.args.self.asked.graph.now.packages = omega arith in
    adds_below_all c.loop-position.position (length c.args.self.asked.graph.now.packages) same c.loop-position.invariant
