use Rattle.std.proofs.Common.{◌≡◌, ◌<◌, true, subst, arith}
use Rattle.std.specs.Prelude.{◌↔◌, All}
use Rattle.std.specs.List.{zip}
use Rattle.std.proofs.lemmas.Result.{IfOk-weaker}
use Rattle.guppy_search.proofs.Members.{IsIn-below}
use Rattle.guppy_search.specs.Resolve.{ShownInTime, JudgesResolve}
use Rattle.guppy_flat.specs.Flat.{plain}
use Rattle.guppy_flat.proofs.FlatLinks.{length-plain}
use Rattle.guppy_flat.proofs.JudgedTraces.{judged, judged_once, judged_leaving, judged_below}
use Rattle.guppy_flat.proofs.judging.judge.Goals as goal

pub returns-then-not-all_below : goal.returns-then-not-all_below
returns-then-not-all_below c = (
  λ h. absurd (cc),
  λ j.
      let is = c.all_below.ensures.1 (subst (λ count. All (λ n. n < count) c.args.shown.now) (length-plain c.args.links.now) (judged_below _ _ _ _ _ _ c.requires.answers j)) in
      let not = c.if-not-all_below.true in
      cc,
)

pub returns-then-not-branch : goal.returns-then-not-branch
returns-then-not-branch c = (
  λ h. absurd (cc),
  λ j.
      let is = c.in_ok-shown_are_leaving.ensures.1 (judged_once _ _ _ _ _ _ c.requires.answers j, judged_leaving _ _ _ _ _ _ c.requires.answers j) in
      let not = c.if-not-branch.true in
      cc,
)

pub returns-then-not-branch-2 : goal.returns-then-not-branch-2
returns-then-not-branch-2 c = (
  λ h. absurd (cc),
  λ j.
      let is = c.in_ok-included_exactly.ensures.1 j.included in
      let not = c.if-not-branch-2.true in
      cc,
)

pub led_to_before-requires-clause-ends : goal.led_to_before-requires-clause-ends
led_to_before-requires-clause-ends c = λ p i.
    let within = IsIn-below c.args.set.now p ((c.in_ok-included_exactly.ensures.0 c.if-not-branch-2.false p).1 i) in
    let size = c.requires.set in
    omega arith

pub returns : goal.returns
returns c =
    let Judged = JudgesResolve c.args.direction (plain c.args.links.now) c.args.starts.now (zip c.args.shown.now c.args.answers.now) c.args.set.now in
    let InTime = ShownInTime c.args.direction (plain c.args.links.now) c.args.starts.now (zip c.args.shown.now c.args.answers.now) in
    IfOk-weaker c.led_to_before.result (λ holds. (holds ≡ true) ↔ InTime) (λ holds. (holds ≡ true) ↔ Judged)
    (λ holds e. (
      λ h. let shows = c.in_ok-shown_are_leaving.ensures.0 c.if-not-branch.false in judged c.args.direction (plain c.args.links.now) c.args.starts.now c.args.shown.now c.args.answers.now c.args.set.now c.requires.answers
          shows.0
          shows.1
          (c.in_ok-included_exactly.ensures.0 c.if-not-branch-2.false)
          (e.0 h),
      λ j. e.1 j.led_to,
    ))
    c.led_to_before.ensures
