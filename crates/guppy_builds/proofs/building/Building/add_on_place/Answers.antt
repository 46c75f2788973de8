use Rattle.guppy_features.proofs.Adding.{adds_then, adds_if}
use Rattle.guppy_builds.proofs.building.Building.add_on_place.Goals as goal

pub returns-in_ok-add_rule-2 : goal.returns-in_ok-add_rule-2
returns-in_ok-add_rule-2 c =
    let first = rw c.built.ensures at c.in_ok-add_rule.ensures in
    let second = rw c.tested.ensures at c.in_ok-add_rule-2.ensures in
    adds_then first (adds_if c.if-self.true second)
