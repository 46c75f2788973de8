use Rattle.std.proofs.Common.{arith}
use Rattle.guppy_metadata.proofs.ListedTexts.{are_texts, no_texts}
use Rattle.guppy_metadata.proofs.Refused.{failed, lacking}
use Rattle.guppy_metadata.proofs.object.copied_texts_of.Goals as goal

pub returns-in_err-text : goal.returns-in_err-text
returns-in_err-text c =
    failed _ _ _ _ c.from_residual-in_err-text.ensures (λ e is.
    no_texts c.args.value.now c.in-Array.items c.deref-item-items.result.now c.in-Array.is c.deref-item-items.ensures.value c.loop-index.index c.item-item.result _ c.loop-index-test.true c.item-item.is _ e is c.in_err-text.ensures)

pub returns-in_err-push : goal.returns-in_err-push
returns-in_err-push c = failed _ _ _ _ c.from_residual-in_err-push.ensures (λ e is. lacking _ e is)

pub returns : goal.returns
returns c =
    are_texts c.args.value.now c.in-Array.items c.deref-item-items.result.now c.in-Array.is c.deref-item-items.ensures.value c.loop-index.index _ (let past = c.loop-index-test.false in omega arith) c.loop-index.invariant
