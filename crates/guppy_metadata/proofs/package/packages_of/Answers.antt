use Rattle.std.proofs.Common.{refl, sym, subst, codes, arith}
use Rattle.json.specs.Find.{get}
use Rattle.json.specs.Value.{value_view}
use Rattle.guppy_metadata.specs.Fault.{LacksMemory}
use Rattle.guppy_metadata.specs.Members.{data_of}
use Rattle.guppy_metadata.specs.Package.{IsParsedPackage}
use Rattle.guppy_metadata.proofs.FittingLists.{next_fits, whole_list}
use Rattle.guppy_metadata.proofs.Refused.{failed}
use Rattle.guppy_metadata.proofs.WrongItems.{item_refused}
use Rattle.guppy_metadata.proofs.package.packages_of.Goals as goal

pub loop-index-preserved : goal.loop-index-preserved
loop-index-preserved c =
    rw c.in_ok-package_at.ensures.added.1 (next_fits (IsParsedPackage c.args.details) value_view c.deref-item-items.result.now c.loop-index.index _ _ _ _ c.loop-index-test.true c.item-item.is c.loop-index.invariant c.in_ok-package_at.ensures.added.2)

pub returns-in_err-package_at : goal.returns-in_err-package_at
returns-in_err-package_at c =
    failed _ _ _ _ c.from_residual-in_err-package_at.ensures (λ e is.
    item_refused (get (codes "packages") (data_of c.args.metadata)) c.in_ok-items.items.now.items c.deref-item-items.result.now c.in_ok-items.ensures c.deref-item-items.ensures.value c.loop-index.index c.item-item.result _ c.loop-index-test.true c.item-item.is e
    (IsParsedPackage c.args.details) _ _ refl (λ lacks. subst LacksMemory (sym is) lacks) c.in_err-package_at.ensures.refused)

pub returns : goal.returns
returns c =
    whole_list (IsParsedPackage c.args.details) (get (codes "packages") (data_of c.args.metadata)) c.in_ok-items.items.now.items c.deref-item-items.result.now c.in_ok-items.ensures c.deref-item-items.ensures.value c.loop-index.index c.loop-index.packages.items
    (let past = c.loop-index-test.false in omega arith) c.loop-index.invariant
