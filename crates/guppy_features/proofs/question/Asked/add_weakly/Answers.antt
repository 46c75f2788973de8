use Rattle.std.proofs.Common.{sym, ◌∙◌}
use Rattle.std.proofs.lemmas.Result.{on_ok_weaker}
use Rattle.guppy_features.specs.Dependencies.{seen_dependency}
use Rattle.guppy_features.specs.Questions.{question_of}
use Rattle.guppy_features.proofs.Adders.{adds_weakly}
use Rattle.guppy_features.proofs.question.Asked.add_weakly.Goals as goal

pub returns : goal.returns
returns c =
    let added = rw (c.feature.ensures, c.side_of-to_side.ensures) at c.add_rule.ensures in
    on_ok_weaker c.add_rule.result (adds_weakly (question_of c.args.self) c.args.side (seen_dependency c.args.dependency.now) c.args.feature.now c.args.first c.in-Some.used (sym c.use_of.ensures ∙ c.in-Some.is)) added
