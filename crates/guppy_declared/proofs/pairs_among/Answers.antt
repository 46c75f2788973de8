use Rattle.std.proofs.Common.{[], arith, map}
use Rattle.guppy_declared.specs.Parts.{IsPairOf}
use Rattle.guppy_declared.specs.Shown.{member_shown, pair_shown}
use Rattle.guppy_declared.proofs.Growing.{grown_more, grown_all}
use Rattle.guppy_declared.proofs.pairs_among.Goals as goal

pub loop-member-preserved : goal.loop-member-preserved
loop-member-preserved c =
    let members = c.args.members.now in
    grown_more (IsPairOf (map member_shown members)) member_shown members c.loop-member.member-index c.member-item.result _ c.loop-member-test.true c.member-item.is [] (map pair_shown c.loop-member.pairs.items)
    (map pair_shown c.add_declared.new.pairs.items) c.loop-member.invariant c.in_ok-add_declared.ensures

pub returns : goal.returns
returns c =
    let members = c.args.members.now in
    grown_all (IsPairOf (map member_shown members)) member_shown members c.loop-member.member-index (let past = c.loop-member-test.false in omega arith) [] (map pair_shown c.loop-member.pairs.items) c.loop-member.invariant
