use Rattle.std.proofs.Common.{sym, ◌∙◌}
use Rattle.guppy_features.specs.Dependencies.{seen_dependency}
use Rattle.guppy_features.specs.Questions.{question_of}
use Rattle.guppy_features.proofs.Adders.{none_asked, not_off}
use Rattle.guppy_features.proofs.question.Asked.asks.Goals as goal

pub returns : goal.returns
returns c = λ off.
    none_asked (question_of c.args.self) c.args.side (seen_dependency c.args.dependency.now)
    (sym c.is_on.ensures ∙ c.if-is_on.false)
    (sym c.is_on-2.ensures ∙ c.if-is_on-2.false)
    (c.is_empty.ensures.0 (not_off c.is_empty.result off))
