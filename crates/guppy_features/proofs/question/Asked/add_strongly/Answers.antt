use Rattle.guppy_features.specs.Dependencies.{seen_dependency}
use Rattle.guppy_features.specs.Questions.{question_of}
use Rattle.guppy_features.proofs.Adders.{adds_strongly_optional, adds_strongly_required}
use Rattle.guppy_features.proofs.question.Asked.add_strongly.Goals as goal

pub returns-in_ok-add_rule-3 : goal.returns-in_ok-add_rule-3
returns-in_ok-add_rule-3 c =
    let there = rw (c.feature.ensures, c.side_of-to_side.ensures) at c.in_ok-add_rule.ensures in
    let switched = rw c.use_of.ensures at c.in_ok-add_rule-2.ensures in
    let named = rw c.feature-then-dependency.ensures at c.in_ok-add_rule-3.ensures in
    adds_strongly_optional (question_of c.args.self) c.args.side (seen_dependency c.args.dependency.now) c.args.feature.now c.args.first c.if-dependency.true there switched named

pub returns-else-dependency : goal.returns-else-dependency
returns-else-dependency c =
    let there = rw (c.feature.ensures, c.side_of-to_side.ensures) at c.in_ok-add_rule.ensures in
    adds_strongly_required (question_of c.args.self) c.args.side (seen_dependency c.args.dependency.now) c.args.feature.now c.args.first c.if-dependency.false there
