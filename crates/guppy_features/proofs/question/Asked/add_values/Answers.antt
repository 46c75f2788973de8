use Rattle.guppy_features.proofs.Adding.{adds_take_more, adds_take_all}
use Rattle.guppy_features.proofs.question.Asked.add_values.Goals as goal

pub loop-value-preserved : goal.loop-value-preserved
loop-value-preserved c = adds_take_more c.args.values.now c.loop-value.value-index c.value-item.result c.loop-value-test.true c.value-item.is c.loop-value.invariant c.in_ok-add_value.ensures

pub returns : goal.returns
returns c = adds_take_all c.args.values.now c.loop-value.value-index c.loop-value-test.false c.loop-value.invariant
