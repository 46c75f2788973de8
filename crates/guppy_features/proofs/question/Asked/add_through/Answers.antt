use Rattle.std.proofs.Common.{rules, sym, ◌∙◌, true, false}
use Rattle.std.specs.Prelude.{IsTrue}
use Rattle.std.specs.Str.{bytes_eq}
use Rattle.std.proofs.lemmas.Result.{on_ok_weaker}
use Rattle.guppy_features.specs.Dependencies.{seen_dependency}
use Rattle.guppy_features.specs.Questions.{question_of, counts}
use Rattle.guppy_features.proofs.Adders.{adds_through}
use Rattle.guppy_features.proofs.question.Asked.add_through.Goals as goal

pub returns-then-weak : goal.returns-then-weak
returns-then-weak c =
    let named : IsTrue (bytes_eq c.args.dependency.now.name.now c.args.name.now) = search rules in
    let counted : IsTrue (counts (question_of c.args.self) c.args.side (seen_dependency c.args.dependency.now)) = sym c.counts.ensures ∙ c.if-not-counts.false in
    rw c.if-weak.true (on_ok_weaker c.add_weakly.result (adds_through (question_of c.args.self) c.args.side (seen_dependency c.args.dependency.now) c.args.name.now c.args.feature.now true c.args.first named counted) c.add_weakly.ensures)

pub returns-else-weak : goal.returns-else-weak
returns-else-weak c =
    let named : IsTrue (bytes_eq c.args.dependency.now.name.now c.args.name.now) = search rules in
    let counted : IsTrue (counts (question_of c.args.self) c.args.side (seen_dependency c.args.dependency.now)) = sym c.counts.ensures ∙ c.if-not-counts.false in
    rw c.if-weak.false (on_ok_weaker c.add_strongly.result (adds_through (question_of c.args.self) c.args.side (seen_dependency c.args.dependency.now) c.args.name.now c.args.feature.now false c.args.first named counted) c.add_strongly.ensures)
