use Rattle.guppy_features.proofs.Adding.{adds_take_more, adds_take_all}
use Rattle.guppy_features.proofs.question.Asked.add_all_roots.Goals as goal

pub loop-chosen-preserved : goal.loop-chosen-preserved
loop-chosen-preserved c =
    let all = c.deref-chosen-items.ensures.value in
    adds_take_more c.args.self.options.now.initials.items c.loop-chosen.chosen-index c.chosen-item.result (rw all at c.loop-chosen-test.true) (rw all at c.chosen-item.is) c.loop-chosen.invariant c.in_ok-add_roots.ensures

pub returns : goal.returns
returns c =
    let all = c.deref-chosen-items.ensures.value in
    adds_take_all c.args.self.options.now.initials.items c.loop-chosen.chosen-index (rw all at c.loop-chosen-test.false) c.loop-chosen.invariant
