use Rattle.std.proofs.Common.{sym, ◌∙◌}
use Rattle.std.proofs.lemmas.Result.{on_ok_weaker}
use Rattle.guppy_features.specs.Dependencies.{seen_dependency}
use Rattle.guppy_features.specs.Questions.{question_of}
use Rattle.guppy_features.proofs.Adders.{adds_needs, adds_no_needs}
use Rattle.guppy_features.proofs.question.Asked.add_needs.Goals as goal

pub returns : goal.returns
returns c =
    on_ok_weaker c.add_needs_of_used.result (adds_needs (question_of c.args.self) c.args.side (seen_dependency c.args.dependency.now) c.in-Some.used (sym c.if-not-may_ask.ensures) (sym c.use_of.ensures ∙ c.in-Some.is)) c.add_needs_of_used.ensures

pub returns-then-not-asks : goal.returns-then-not-asks
returns-then-not-asks c = adds_no_needs (question_of c.args.self) c.args.side (seen_dependency c.args.dependency.now) (c.asks.ensures c.if-not-asks.true) _
