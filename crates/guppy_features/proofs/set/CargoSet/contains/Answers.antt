use Rattle.std.proofs.Common.{◌≡◌}
use Rattle.guppy_closure.proofs.Relations.{holds_by}
use Rattle.guppy_features.specs.Questions.{question_of}
use Rattle.guppy_features.specs.Follows.{FollowsFor}
use Rattle.guppy_features.proofs.set.CargoSet.contains.Goals as goal

pub returns : goal.returns
returns c =
    let asked : c.args.self.now ≡ question_of c.self.inside.asked = cc in
    let same = holds_by (FollowsFor (question_of c.self.inside.asked)) c.self.inside.known c.self.invariant c.args.fact in
    rw asked (λ is. same.1 (c.holds.ensures.0 is), λ h. c.holds.ensures.1 (same.0 h))
