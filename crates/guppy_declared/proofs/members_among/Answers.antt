use Rattle.std.proofs.Common.{◌∙◌, [], arith, map, ap}
use Rattle.json.specs.Value.{value_view}
use Rattle.guppy_declared.specs.Parts.{IsMemberAt}
use Rattle.guppy_declared.specs.Shown.{member_shown}
use Rattle.guppy_declared.proofs.Growing.{grown_more, grown_all, step_none, step_one}
use Rattle.guppy_declared.proofs.members_among.Goals.{in-Some+in_ok-push, in_default}
use Rattle.guppy_declared.proofs.members_among.Goals as goal

pub loop-value-preserved : goal.loop-value-preserved
loop-value-preserved c =
    let R = IsMemberAt (value_view c.args.metadata.now) in
    let value = c.value-item.result in
    grown_more R value_view c.args.packages.now c.loop-value.value-index value _ c.loop-value-test.true c.value-item.is [] (map member_shown c.loop-value.members.items) (map member_shown c.match-member_in.members.items) c.loop-value.invariant (
    elim c.match-member_in.branch [
      | in-Some+in_ok-push w ↦
          step_one R member_shown (value_view value) c.loop-value.members.items c.match-member_in.members.items w.in-Some.member (ap (λ v. v.items) w.members-is ∙ w.in_ok-push.ensures.items) w.in-Some.ensures
      | in_default w ↦ rw w.members-is (step_none R (value_view value) (map member_shown c.loop-value.members.items) w.in_default.ensures)
    ])

pub returns : goal.returns
returns c =
    grown_all (IsMemberAt (value_view c.args.metadata.now)) value_view c.args.packages.now c.loop-value.value-index (let past = c.loop-value-test.false in omega arith) [] (map member_shown c.loop-value.members.items) c.loop-value.invariant
