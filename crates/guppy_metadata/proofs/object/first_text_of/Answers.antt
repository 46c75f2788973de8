use Rattle.std.proofs.Common.{[], ◌∷◌, ◌++◌, arith}
use Rattle.guppy_metadata.proofs.ListedTexts.{are_texts, next_text, no_texts, still_first}
use Rattle.guppy_metadata.proofs.Refused.{failed}
use Rattle.guppy_metadata.proofs.object.first_text_of.Goals as goal

pub loop-index-preserved : goal.loop-index-preserved
loop-index-preserved c =
    let told = c.loop-index.invariant in
    let text = c.in_ok-text.text in (
      told.0 ++ text.now ∷ [],
      next_text c.deref-item-items.result.now c.loop-index.index c.item-item.result _ told.0 text.now c.loop-index-test.true c.item-item.is told.1 c.in_ok-text.ensures,
      rw c.or-first.ensures (still_first told.0 c.loop-index.first text told.2),
    )

pub returns-in_err-text : goal.returns-in_err-text
returns-in_err-text c =
    failed _ _ _ _ c.from_residual.ensures (λ e is.
    no_texts c.args.value.now c.in-Array.items c.deref-item-items.result.now c.in-Array.is c.deref-item-items.ensures.value c.loop-index.index c.item-item.result _ c.loop-index-test.true c.item-item.is _ e is c.in_err-text.ensures)

pub returns : goal.returns
returns c =
    let told = c.loop-index.invariant in (
      told.0,
      are_texts c.args.value.now c.in-Array.items c.deref-item-items.result.now c.in-Array.is c.deref-item-items.ensures.value c.loop-index.index told.0 (let past = c.loop-index-test.false in omega arith) told.1,
      told.2,
    )
