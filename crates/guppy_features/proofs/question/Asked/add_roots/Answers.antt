use Rattle.std.proofs.Common.{sym, ◌∙◌}
use Rattle.guppy_features.specs.Questions.{question_of, splits, is_macro}
use Rattle.guppy_features.proofs.Adding.{adds_then, adds_if}
use Rattle.guppy_features.proofs.Adders.{both_true}
use Rattle.guppy_features.proofs.question.Asked.add_roots.Goals as goal

pub returns-in_ok-add_roots_on-2 : goal.returns-in_ok-add_roots_on-2
returns-in_ok-add_roots_on-2 c =
    let both = both_true (splits (question_of c.args.self)) (is_macro (question_of c.args.self) c.args.initial.now.position) (sym c.splits.ensures ∙ c.if-splits.true) (sym c.is_macro.ensures ∙ c.if-is_macro.true) in
    adds_then c.in_ok-add_roots_on.ensures (adds_if both c.in_ok-add_roots_on-2.ensures)
