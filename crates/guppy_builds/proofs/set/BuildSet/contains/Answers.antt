use Rattle.std.proofs.Common.{◌≡◌}
use Rattle.guppy_closure.proofs.Relations.{holds_by}
use Rattle.guppy_features.specs.Questions.{question_of}
use Rattle.guppy_builds.specs.Building.{builds}
use Rattle.guppy_builds.specs.Follows.{BuildsFor}
use Rattle.guppy_builds.proofs.set.BuildSet.contains.Goals as goal

pub returns : goal.returns
returns c =
    let is : c.args.self.now ≡ builds (question_of c.self.inside.asked) c.self.inside.members.now = cc in
    let same = holds_by (BuildsFor (question_of c.self.inside.asked) c.self.inside.members.now) c.self.inside.known c.self.invariant c.args.build in
    rw is (λ so. same.1 (c.holds.ensures.0 so), λ h. c.holds.ensures.1 (same.0 h))
