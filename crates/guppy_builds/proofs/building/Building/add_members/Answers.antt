use Rattle.std.proofs.Common.{get_or}
use Rattle.std.proofs.lemmas.List.{get_or_default}
use Rattle.guppy_features.proofs.Adding.{adds_take_more, adds_take_all}
use Rattle.guppy_builds.proofs.building.Building.add_members.Goals as goal

pub loop-member-preserved : goal.loop-member-preserved
loop-member-preserved c =
    let members = c.args.members.now in
    let i = c.loop-member.member-index in
    let within = c.loop-member-test.true in
    adds_take_more members i (get_or members i 0) within (get_or_default members i 0 (get_or members i 0) within) c.loop-member.invariant c.in_ok-add_member.ensures

pub returns : goal.returns
returns c = adds_take_all c.args.members.now c.loop-member.member-index c.loop-member-test.false c.loop-member.invariant
