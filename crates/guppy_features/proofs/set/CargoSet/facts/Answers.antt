use Rattle.std.proofs.Common.{◌≡◌, ◌↔◌}
use Rattle.std.specs.Prelude.{Contains}
use Rattle.std.proofs.lemmas.Result.{IfOk-weaker}
use Rattle.guppy_closure.specs.Relations.{HoldsBy}
use Rattle.guppy_closure.specs.Clauses.{Holds}
use Rattle.guppy_features.specs.declared.fact.Fact.{Fact}
use Rattle.guppy_features.specs.Questions.{question_of}
use Rattle.guppy_features.specs.Follows.{FollowsFor}
use Rattle.guppy_features.proofs.Follows.{facts_follow}
use Rattle.guppy_features.proofs.set.CargoSet.facts.Goals as goal

pub returns-clause-holds : goal.returns-clause-holds
returns-clause-holds c =
    let asked : c.args.self.now ≡ question_of c.self.inside.asked = cc in
    let clauses = c.self.inside.known in
    rw asked (IfOk-weaker c.facts.result (λ facts. (f : Fact) → Contains facts.items f ↔ Holds clauses f) (λ facts. (f : Fact) → Contains facts.items f ↔ HoldsBy (FollowsFor (question_of c.self.inside.asked)) f) (λ facts holds. facts_follow (question_of c.self.inside.asked) clauses facts.items c.self.invariant holds) c.facts.ensures.holds)
