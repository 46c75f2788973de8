use Rattle.std.proofs.Common.{◌≡◌, ◌∙◌, String, false, true, arith, map, sym, ap}
use Rattle.std.specs.declared.alloc.Global.{Global}
use Rattle.guppy_declared.specs.Parts.{IsPairAt}
use Rattle.guppy_declared.specs.Shown.{member_shown, pair_shown}
use Rattle.guppy_declared.proofs.Growing.{grown_more, grown_all, step_none, step_one}
use Rattle.guppy_declared.proofs.add_named.Goals.{then-lies_in+in_ok-from_str+in_ok-from_str-2+in_ok-push, else-lies_in}
use Rattle.guppy_declared.proofs.add_named.Goals as goal

pub loop-member-preserved : goal.loop-member-preserved
loop-member-preserved c =
    let R = IsPairAt c.args.from.now c.args.folder.now in
    let ms = c.args.members.now in
    let k = c.loop-member.member-index in
    let member = c.member-item.result in
    let old = map pair_shown c.args.pairs.now.items in
    let mid = map pair_shown c.loop-member.pairs.items in
    grown_more R member_shown ms k member _ c.loop-member-test.true c.member-item.is old mid (map pair_shown c.if-lies_in.pairs.items) c.loop-member.invariant (
    elim c.if-lies_in.branch [
      | then-lies_in+in_ok-from_str+in_ok-from_str-2+in_ok-push w ↦
          let pair : String Global × String Global = (w.in_ok-from_str.field-0, w.in_ok-from_str-2.field-0) in
          let shown : pair_shown pair ≡ (c.args.from.now, member.id.now) = λ i. (w.in_ok-from_str.ensures.ok i, w.in_ok-from_str-2.ensures.ok i) in
          let lies = c.lies_in.ensures.0 w.if-lies_in.true in
          step_one R pair_shown (member_shown member) c.loop-member.pairs.items c.if-lies_in.pairs.items pair (ap (λ v. v.items) w.pairs-is ∙ w.in_ok-push.ensures.items)
          (λ y. (λ e. (lies, e ∙ shown), λ said. said.1 ∙ sym shown))
      | else-lies_in w ↦
          rw w.pairs-is (step_none R (member_shown member) mid (λ y said. let wrong : false ≡ true = sym w.if-lies_in.false ∙ c.lies_in.ensures.1 said.0 in absurd (cc wrong)))
    ])

pub returns : goal.returns
returns c =
    grown_all (IsPairAt c.args.from.now c.args.folder.now) member_shown c.args.members.now c.loop-member.member-index (let past = c.loop-member-test.false in omega arith) (map pair_shown c.args.pairs.now.items)
    (map pair_shown c.loop-member.pairs.items) c.loop-member.invariant
