use Rattle.std.proofs.Common.{◌≡◌, map}
use Rattle.std.proofs.lemmas.Result.{on_ok_weaker}
use Rattle.guppy_features.specs.Dependencies.{seen_dependency, dependencies}
use Rattle.guppy_features.specs.Questions.{question_of}
use Rattle.guppy_features.specs.Adding.{Adds}
use Rattle.guppy_features.specs.Parts.{Switches}
use Rattle.guppy_features.proofs.Adding.{adds_then}
use Rattle.guppy_features.proofs.question.Asked.add_package_on.Goals as goal

pub returns : goal.returns
returns c =
    let all : map seen_dependency c.args.dependencies.now ≡ dependencies c.args.self.graph.now c.args.position = c.requires.dependencies in
    let needed = rw all at c.in_ok-add_all_needs.ensures in
    on_ok_weaker c.add_feature_clauses.result (λ (switched : Adds (Switches (question_of c.args.self) c.args.position c.args.side) c.add_all_needs.new.rules.items c.add_feature_clauses.new.rules.items). adds_then needed switched) c.add_feature_clauses.ensures
