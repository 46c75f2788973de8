use Rattle.std.proofs.Common.{Some, None, refl, subst, codes, arith}
use Rattle.std.specs.Option.{option_copied}
use Rattle.std.proofs.lemmas.List.{take_all}
use Rattle.json.specs.Find.{get}
use Rattle.json.specs.Value.{value_view}
use Rattle.guppy_metadata.specs.Members.{data_of}
use Rattle.guppy_metadata.specs.Target.{IsLibraryName}
use Rattle.guppy_metadata.proofs.FittingLists.{taken_more}
use Rattle.guppy_metadata.proofs.Libraries.{library_next, library_told, library_here, library_refused, no_library}
use Rattle.guppy_metadata.proofs.Refused.{failed}
use Rattle.guppy_metadata.proofs.target.first_library.Goals as goal

pub loop-index-preserved : goal.loop-index-preserved
loop-index-preserved c =
    let item = c.item-item.result in
    let none : IsLibraryName (value_view item) None = subst (λ d. IsLibraryName d None) c.in_ok-target.ensures
    (subst (λ o. IsLibraryName (data_of c.in_ok-target.target) (option_copied o)) c.in-Ok-None.field-0-is c.in-Ok-None.ensures) in
    rw (taken_more value_view c.deref-item-items.result.now c.loop-index.index item _ c.loop-index-test.true c.item-item.is) (library_next _ (value_view item) None c.loop-index.invariant none)

pub returns-in_err-target : goal.returns-in_err-target
returns-in_err-target c =
    let item = c.item-item.result in
    failed _ _ _ _ c.from_residual-in_err-target.ensures (λ e is.
    library_refused (get (codes "targets") (data_of c.args.json)) c.in_ok-items.items.now.items c.deref-item-items.result.now c.in_ok-items.ensures c.deref-item-items.ensures.value
    c.loop-index.index item _ c.loop-index-test.true c.item-item.is c.loop-index.invariant (value_view item) e e refl (λ lacks. lacks) (no_library (value_view item) e c.in_err-target.ensures))

pub returns-in-Ok-Some : goal.returns-in-Ok-Some
returns-in-Ok-Some c =
    let item = c.item-item.result in
    library_here (get (codes "targets") (data_of c.args.json)) c.in_ok-items.items.now.items c.deref-item-items.result.now c.in_ok-items.ensures c.deref-item-items.ensures.value
    c.loop-index.index item _ c.loop-index-test.true c.item-item.is c.loop-index.invariant c.in-Ok-Some.name.now
    (subst (λ d. IsLibraryName d (Some c.in-Ok-Some.name.now)) c.in_ok-target.ensures
    (subst (λ o. IsLibraryName (data_of c.in_ok-target.target) (option_copied o)) c.in-Ok-Some.field-0-is c.in-Ok-Some.ensures))

pub returns-in-Err : goal.returns-in-Err
returns-in-Err c =
    library_refused (get (codes "targets") (data_of c.args.json)) c.in_ok-items.items.now.items c.deref-item-items.result.now c.in_ok-items.ensures c.deref-item-items.ensures.value
    c.loop-index.index c.item-item.result _ c.loop-index-test.true c.item-item.is c.loop-index.invariant _ c.within_item.result c.in-Err.fault c.in_ok-target.ensures c.within_item.ensures c.in-Err.ensures

pub returns : goal.returns
returns c =
    library_told (get (codes "targets") (data_of c.args.json)) c.in_ok-items.items.now.items c.deref-item-items.result.now c.in_ok-items.ensures c.deref-item-items.ensures.value None
    (let past = c.loop-index-test.false in rw (take_all c.loop-index.index c.deref-item-items.result.now (omega arith)) at c.loop-index.invariant)
