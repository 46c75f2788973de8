use Rattle.std.proofs.Common.{◌≡◌, arith, subst}
use Rattle.guppy_publish.specs.Needs.{Pair, pair_texts, IsLinkedFor}
use Rattle.guppy_publish.proofs.Adding.{added_none, added_more, added_all}
use Rattle.guppy_publish.proofs.needs.add_needs.Goals as goal

pub loop-pair-init : goal.loop-pair-init
loop-pair-init c = record { added = added_none c.args.links.now.items; within = omega arith }

pub loop-pair-preserved : goal.loop-pair-preserved
loop-pair-preserved c =
    let links = c.loop-pair.links.items in
    let links' = c.add_need.new.links.items in
    let invariant = c.loop-pair.invariant in
    let given : (c.as_str.result.now, c.as_str-in-loop-pair.result.now) ≡ pair_texts c.pair-item.result = λ i. (c.as_str.ensures.value i, c.as_str-in-loop-pair.ensures.value i) in
    record {
      added = added_more pair_texts c.args.declared.now c.loop-pair.pair-index c.pair-item.result _ c.loop-pair-test.true c.pair-item.is c.args.links.now.items links links' invariant.added
          (subst (λ (pair : Pair). IsLinkedFor pair links links') given c.in_ok-start.ensures.linked);
      within = c.in_ok-start.ensures.within;
    }

pub returns : goal.returns
returns c =
    added_all pair_texts c.args.declared.now c.loop-pair.pair-index (let past = c.loop-pair-test.false in omega arith) c.args.links.now.items c.loop-pair.links.items c.loop-pair.invariant.added
