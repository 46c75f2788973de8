use Rattle.std.proofs.Common.{arith}
use Rattle.guppy_publish.specs.Needs.{pair_texts}
use Rattle.guppy_publish.proofs.Adding.{not_there}
use Rattle.guppy_publish.proofs.needs.is_declared.Goals as goal

pub returns : goal.returns
returns c = (
  λ no. absurd (cc no),
  λ there. absurd (not_there pair_texts c.args.declared.now c.loop-pair.pair-index (let past = c.loop-pair-test.false in omega arith) (c.args.from.now, c.args.to.now) c.loop-pair.invariant there),
)
