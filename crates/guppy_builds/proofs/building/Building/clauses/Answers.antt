use Rattle.guppy_features.proofs.Adding.{adds_same, adds_then, adds_to_nothing}
use Rattle.guppy_builds.specs.Building.{question_of}
use Rattle.guppy_builds.proofs.Follows.{what_builds}
use Rattle.guppy_builds.proofs.building.Building.clauses.Goals as goal

pub returns : goal.returns
returns c =
    let members = rw c.new-rules.ensures.items at c.in_ok-add_members.ensures in
    adds_to_nothing (adds_same (what_builds (question_of c.args.self) c.args.members.now) (adds_then members c.in_ok-add_packages.ensures))
