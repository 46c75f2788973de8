use Rattle.std.proofs.Common.{refl, subst, codes, arith}
use Rattle.json.specs.Json.{string}
use Rattle.json.specs.Find.{get}
use Rattle.json.specs.Value.{value_view}
use Rattle.guppy_metadata.specs.Dependency.{IsDeclared}
use Rattle.guppy_metadata.specs.Members.{data_of}
use Rattle.guppy_metadata.proofs.FittingLists.{next_fits, whole_list}
use Rattle.guppy_metadata.proofs.Refused.{failed, lacking, no_member}
use Rattle.guppy_metadata.proofs.WrongItems.{item_refused}
use Rattle.guppy_metadata.proofs.declared.declared_dependencies.Goals as goal

pub loop-index-preserved : goal.loop-index-preserved
loop-index-preserved c =
    let is : IsDeclared c.args.details (value_view c.item-item.result) c.in-Ok.dependency = subst (λ d. IsDeclared c.args.details d c.in-Ok.dependency) c.in_ok-dependency.ensures c.in-Ok.ensures in
    rw c.in_ok-push-in-Ok.ensures.items (next_fits (IsDeclared c.args.details) value_view c.deref-item-items.result.now c.loop-index.index _ _ _ _ c.loop-index-test.true c.item-item.is c.loop-index.invariant is)

pub returns-in_err-dependency : goal.returns-in_err-dependency
returns-in_err-dependency c =
    let item = c.item-item.result in
    failed _ _ _ _ c.from_residual-in_err-dependency.ensures (λ e is.
    item_refused (get (codes "dependencies") (data_of c.args.json)) c.in_ok-items.items.now.items c.deref-item-items.result.now c.in_ok-items.ensures c.deref-item-items.ensures.value c.loop-index.index item _ c.loop-index-test.true c.item-item.is e
    (IsDeclared c.args.details) (value_view item) e refl (λ lacks. lacks) (no_member (IsDeclared c.args.details (value_view item)) (value_view item) (codes "name") e c.in_err-dependency.ensures (λ x holds. (string x.name.now, holds.name))))

pub returns-in_err-push-in-Ok : goal.returns-in_err-push-in-Ok
returns-in_err-push-in-Ok c =
    failed _ _ _ _ c.from_residual-in_err-push-in-Ok.ensures (λ e is. lacking _ e is)

pub returns-in-Err : goal.returns-in-Err
returns-in-Err c =
    item_refused (get (codes "dependencies") (data_of c.args.json)) c.in_ok-items.items.now.items c.deref-item-items.result.now c.in_ok-items.ensures c.deref-item-items.ensures.value c.loop-index.index c.item-item.result _ c.loop-index-test.true c.item-item.is c.within_item.result
    (IsDeclared c.args.details) _ c.in-Err.fault c.in_ok-dependency.ensures c.within_item.ensures c.in-Err.ensures

pub returns : goal.returns
returns c =
    whole_list (IsDeclared c.args.details) (get (codes "dependencies") (data_of c.args.json)) c.in_ok-items.items.now.items c.deref-item-items.result.now c.in_ok-items.ensures c.deref-item-items.ensures.value c.loop-index.index c.loop-index.declared.items
    (let past = c.loop-index-test.false in omega arith) c.loop-index.invariant
