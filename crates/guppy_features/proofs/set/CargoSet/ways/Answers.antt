use Rattle.std.proofs.Common.{◌≡◌}
use Rattle.std.proofs.lemmas.Result.{IfOk-weaker}
use Rattle.guppy_features.specs.Questions.{question_of}
use Rattle.guppy_features.specs.Follows.{FollowsFor}
use Rattle.guppy_features.specs.Reasons.{AreLeading, AreWays}
use Rattle.guppy_features.proofs.Reasons.{are_ways}
use Rattle.guppy_features.proofs.set.CargoSet.ways.Goals as goal

pub returns : goal.returns
returns c =
    let asked : c.args.self.now ≡ question_of c.self.inside.asked = cc in
    let C = FollowsFor (question_of c.self.inside.asked) in
    let clauses = c.self.inside.known in
    rw asked (IfOk-weaker c.ways_of.result (λ ways. AreLeading clauses clauses c.args.fact ways.items) (λ ways. AreWays C c.args.fact ways.items) (λ ways leading. are_ways clauses C c.self.invariant c.args.fact ways.items leading) c.ways_of.ensures)
