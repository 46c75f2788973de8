use Rattle.std.proofs.Common.{◌≡◌, ◌↔◌}
use Rattle.std.specs.Prelude.{Contains}
use Rattle.std.proofs.lemmas.Result.{IfOk-weaker}
use Rattle.guppy_closure.specs.Relations.{HoldsBy}
use Rattle.guppy_closure.specs.Clauses.{Holds}
use Rattle.guppy_features.specs.Questions.{question_of}
use Rattle.guppy_builds.specs.declared.build.Build.{Build}
use Rattle.guppy_builds.specs.Building.{builds}
use Rattle.guppy_builds.specs.Follows.{BuildsFor}
use Rattle.guppy_builds.proofs.Follows.{builds_follow}
use Rattle.guppy_builds.proofs.set.BuildSet.builds.Goals as goal

pub returns-clause-built : goal.returns-clause-built
returns-clause-built c =
    let is : c.args.self.now ≡ builds (question_of c.self.inside.asked) c.self.inside.members.now = cc in
    let q = question_of c.self.inside.asked in
    let members = c.self.inside.members.now in
    let clauses = c.self.inside.known in
    rw is (IfOk-weaker c.facts.result (λ found. (f : Build) → Contains found.items f ↔ Holds clauses f) (λ found. (f : Build) → Contains found.items f ↔ HoldsBy (BuildsFor q members) f) (λ found holds. builds_follow q members clauses found.items c.self.invariant holds) c.facts.ensures.holds)
