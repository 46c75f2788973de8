use Rattle.std.proofs.Common.{refl, codes, arith}
use Rattle.json.specs.Find.{get}
use Rattle.json.specs.Value.{value_view}
use Rattle.guppy_metadata.specs.Links.{IsUsage}
use Rattle.guppy_metadata.specs.Members.{data_of}
use Rattle.guppy_metadata.proofs.FittingLists.{next_fits, whole_list}
use Rattle.guppy_metadata.proofs.Refused.{failed, lacking}
use Rattle.guppy_metadata.proofs.WrongItems.{item_refused}
use Rattle.guppy_metadata.proofs.resolved.usages_of.Goals as goal

pub loop-index-preserved : goal.loop-index-preserved
loop-index-preserved c =
    rw c.in_ok-push-in-Ok.ensures.items (next_fits IsUsage value_view c.deref-item-items.result.now c.loop-index.index _ _ _ _ c.loop-index-test.true c.item-item.is c.loop-index.invariant c.in-Ok.ensures)

pub returns-in_err-push-in-Ok : goal.returns-in_err-push-in-Ok
returns-in_err-push-in-Ok c =
    failed _ _ _ _ c.from_residual-in_err-push-in-Ok.ensures (λ e is. lacking _ e is)

pub returns-in-Err : goal.returns-in-Err
returns-in-Err c =
    item_refused (get (codes "dep_kinds") (data_of c.args.dependency)) c.in_ok-items.items.now.items c.deref-item-items.result.now c.in_ok-items.ensures c.deref-item-items.ensures.value c.loop-index.index c.item-item.result _ c.loop-index-test.true c.item-item.is c.within_item.result
    IsUsage _ c.in-Err.fault refl c.within_item.ensures c.in-Err.ensures

pub returns : goal.returns
returns c =
    whole_list IsUsage (get (codes "dep_kinds") (data_of c.args.dependency)) c.in_ok-items.items.now.items c.deref-item-items.result.now c.in_ok-items.ensures c.deref-item-items.ensures.value c.loop-index.index c.loop-index.usages.items
    (let past = c.loop-index-test.false in omega arith) c.loop-index.invariant
