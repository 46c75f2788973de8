use Rattle.std.proofs.Common.{sym, refl, subst, arith, All}
use Rattle.std.proofs.lemmas.List.{take_all}
use Rattle.std.proofs.lemmas.Option.{slice_get_read}
use Rattle.guppy_search.proofs.Exits.{if_ok, on_ok, if_err}
use Rattle.guppy_graph.specs.Keys.{IsFirstRepeat}
use Rattle.guppy_graph.specs.Targets.{AreTargetsDistinct, HasTarget}
use Rattle.guppy_graph.specs.Indexes.{IsTargetIndex, AreTargetIndexes}
use Rattle.guppy_graph.proofs.Lists.{AllZip-more, All-take_more}
use Rattle.guppy_graph.proofs.TargetIds.{repeat_not_distinct}
use Rattle.guppy_graph.proofs.UnknownTexts.{memory_told}
use Rattle.guppy_graph.proofs.build.distinct_targets.Goals as goal

pub returns-in_err-indexes : goal.returns-in_err-indexes
returns-in_err-indexes c =
    let none = c.from_residual.ensures in
    record { made = if_ok _ _ none.0; accepted = on_ok _ _ none.0; refused = if_err _ _ _ none.1 (λ e is. memory_told _ e is) }

pub loop-package-init : goal.loop-package-init
loop-package-init c = (rw c.in_ok-indexes.ensures.items tt, λ k d within. absurd (omega arith))

pub returns-in_err-index : goal.returns-in_err-index
returns-in_err-index c =
    let none = c.from_residual-in_err-index.ensures in
    record { made = if_ok _ _ none.0; accepted = on_ok _ _ none.0; refused = if_err _ _ _ none.1 (λ e is. memory_told _ e is) }

pub returns-in-Some-clause-refused : goal.returns-in-Some-clause-refused
returns-in-Some-clause-refused c =
    let r = c.index-packages-package.result in
    let repeated : IsFirstRepeat (HasTarget r.build_targets.items) c.in-Some.target = rw (c.in-Some.is, c.as_slice.ensures.value) at c.in_ok-index.ensures.repeat in
    rw c.into.ensures (
      c.loop-package.package,
      c.in-Some.target,
      refl,
      record {
        first = record {
          item = r;
          found = slice_get_read c.args.packages.now _ c.loop-package.package r refl c.loop-package-test.true c.index-packages-package.is;
          lacks = repeat_not_distinct r.build_targets.items c.in-Some.target repeated;
          before = c.loop-package.invariant.1;
        };
        repeated = repeated;
      },
    )

pub returns-in_err-push : goal.returns-in_err-push
returns-in_err-push c =
    let none = c.from_residual-in_err-push.ensures in
    record { made = if_ok _ _ none.0; accepted = on_ok _ _ none.0; refused = if_err _ _ _ none.1 (λ e is. memory_told _ e is) }

pub loop-package-preserved : goal.loop-package-preserved
loop-package-preserved c =
    let packages = c.args.packages.now in
    let k = c.loop-package.package in
    let r = c.index-packages-package.result in
    let at = sym c.index-packages-package.is in (
      rw c.in_ok-push.ensures.items (AllZip-more (λ r index. IsTargetIndex r.build_targets.items index.items) packages c.loop-package.indexes.items k r c.in_ok-index.index c.loop-package-test.true at c.loop-package.invariant.0 (rw c.as_slice.ensures.value at c.in_ok-index.ensures.index)),
      All-take_more AreTargetsDistinct packages k r c.loop-package-test.true at c.loop-package.invariant.1 (rw (c.in_default.is, c.as_slice.ensures.value) at c.in_ok-index.ensures.repeat),
    )

pub returns-clause-made : goal.returns-clause-made
returns-clause-made c = subst (λ packages. AreTargetIndexes packages c.loop-package.indexes.items) (take_all c.loop-package.package c.args.packages.now c.loop-package-test.false) c.loop-package.invariant.0

pub returns-clause-accepted : goal.returns-clause-accepted
returns-clause-accepted c = subst (All AreTargetsDistinct) (take_all c.loop-package.package c.args.packages.now c.loop-package-test.false) c.loop-package.invariant.1
