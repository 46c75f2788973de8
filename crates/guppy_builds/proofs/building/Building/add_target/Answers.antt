use Rattle.guppy_features.proofs.Adding.{adds_if}
use Rattle.guppy_builds.proofs.building.Building.add_target.Goals as goal

pub returns-in_ok-add_on_places : goal.returns-in_ok-add_on_places
returns-in_ok-add_on_places c = adds_if (c.is_built.ensures.0 c.if-is_built.true) c.in_ok-add_on_places.ensures
