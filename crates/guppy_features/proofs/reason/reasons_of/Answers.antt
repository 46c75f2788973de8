use Rattle.std.proofs.Common.{List, [], ◌∷◌, ◌++◌, ap, sym, ◌∙◌}
use Rattle.guppy_features.specs.declared.reason.Reason.{Reason}
use Rattle.guppy_features.proofs.Reasons.{reason_more}
use Rattle.guppy_features.proofs.reason.reasons_of.Goals as goal

pub loop-number-preserved : goal.loop-number-preserved
loop-number-preserved c =
    let i = c.loop-number.number-index in
    let below = c.loop-number-test.true in
    c.in_ok-push.ensures.items
    ∙ ap (λ (front : List Reason). front ++ c.of.result ∷ []) c.loop-number.invariant
    ∙ sym (reason_more c.args.clauses.now c.args.numbers.now i _ c.of.result below (c.requires i 0 below) c.of.ensures)
