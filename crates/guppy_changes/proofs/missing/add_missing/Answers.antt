use Rattle.std.proofs.Common.{map, subst}
use Rattle.std.proofs.lemmas.List.{take_all}
use Rattle.guppy_changes.specs.contracts.mark.MarkOfPartialEq.TheImpl.{eq-value as mark_of_eq}
use Rattle.guppy_changes.specs.Missing.{AddsMissing}
use Rattle.guppy_changes.specs.Shown.{all_shown, shown}
use Rattle.guppy_changes.proofs.Same.{equal_shown, shown_equal}
use Rattle.guppy_changes.proofs.Sets.{set_has}
use Rattle.guppy_changes.proofs.Absent.{missing_none, next_there, next_new, apart}
use Rattle.guppy_changes.proofs.missing.add_missing.Goals.{then-not-contains+in_ok-push, else-not-contains}
use Rattle.guppy_changes.proofs.missing.add_missing.Goals as goal

pub loop-mark-init : goal.loop-mark-init
loop-mark-init c = missing_none (all_shown c.args.others.now) (map (λ id. id.now) c.args.ids.now.items)

pub loop-mark-preserved : goal.loop-mark-preserved
loop-mark-preserved c =
    let ys = all_shown c.args.others.now in
    let old = map (λ id. id.now) c.args.ids.now.items in
    let marks = c.as_slice-mark-items.result.now in
    let i = c.loop-mark.mark-index in
    let x = c.mark-item.result in
    let has = set_has mark_of_eq.it shown equal_shown shown_equal c.args.others.now x in
    elim c.if-not-contains.branch [
      | then-not-contains+in_ok-push w ↦ rw w.ids-is (next_new ys old marks i x c.loop-mark-test.true c.mark-item.is c.loop-mark.ids.items w.push.new.self.items w.in_ok-push.ensures.items c.loop-mark.invariant
          (λ there. apart c.contains.result w.if-not-contains.true (c.contains.ensures.1 (has.1 there))))
      | else-not-contains w ↦ rw w.ids-is (next_there ys old marks i x c.loop-mark-test.true c.mark-item.is (map (λ id. id.now) c.loop-mark.ids.items) c.loop-mark.invariant
          (has.0 (c.contains.ensures.0 w.if-not-contains.false)))
    ]

pub returns : goal.returns
returns c =
    let old = map (λ id. id.now) c.args.ids.now.items in
    let new = map (λ id. id.now) c.loop-mark.ids.items in
    subst (λ xs. AddsMissing (all_shown xs) (all_shown c.args.others.now) old new) c.as_slice-mark-items.ensures.items
    (subst (λ xs. AddsMissing (all_shown xs) (all_shown c.args.others.now) old new) (take_all c.loop-mark.mark-index c.as_slice-mark-items.result.now c.loop-mark-test.false) c.loop-mark.invariant)
