use Rattle.std.proofs.Common.{[], ◌∷◌, ◌++◌, arith}
use Rattle.indexmap.proofs.SetLemmas.{AllZip-push}
use Rattle.guppy_data.specs.NamedFeature.{IsFeature}
use Rattle.guppy_metadata.proofs.ListedTexts.{are_texts, next_text, no_texts}
use Rattle.guppy_metadata.proofs.Refused.{failed, lacking}
use Rattle.guppy_metadata.proofs.feature.switched_on.Goals as goal

pub loop-index-preserved : goal.loop-index-preserved
loop-index-preserved c =
    let told = c.loop-index.invariant in
    let text = c.in_ok-text.text.now in (
      told.0 ++ text ∷ [],
      next_text c.deref-item-items.result.now c.loop-index.index c.item-item.result _ told.0 text c.loop-index-test.true c.item-item.is told.1 c.in_ok-text.ensures,
      rw c.in_ok-push.ensures.items (AllZip-push IsFeature _ _ _ _ told.2 c.in_ok-from_text.ensures.read),
    )

pub returns-in_err-text : goal.returns-in_err-text
returns-in_err-text c =
    failed _ _ _ _ c.from_residual-in_err-text.ensures (λ e is.
    no_texts c.args.value.now c.in-Array.items c.deref-item-items.result.now c.in-Array.is c.deref-item-items.ensures.value c.loop-index.index c.item-item.result _ c.loop-index-test.true c.item-item.is _ e is c.in_err-text.ensures)

pub returns-in_err-push : goal.returns-in_err-push
returns-in_err-push c = failed _ _ _ _ c.from_residual-in_err-push.ensures (λ e is. lacking _ e is)

pub returns : goal.returns
returns c =
    let told = c.loop-index.invariant in (
      told.0,
      are_texts c.args.value.now c.in-Array.items c.deref-item-items.result.now c.in-Array.is c.deref-item-items.ensures.value c.loop-index.index told.0 (let past = c.loop-index-test.false in omega arith) told.1,
      told.2,
    )
