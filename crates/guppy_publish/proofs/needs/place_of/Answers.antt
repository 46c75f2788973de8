use Rattle.std.proofs.Common.{arith}
use Rattle.guppy_publish.specs.Needs.{ends}
use Rattle.guppy_publish.proofs.Adding.{not_there}
use Rattle.guppy_publish.proofs.needs.place_of.Goals as goal

pub returns-clause-linked : goal.returns-clause-linked
returns-clause-linked c = (
  λ no. absurd (cc no),
  λ there. absurd (not_there ends c.args.links.now c.loop-place.place (omega arith) (c.args.from.now, c.args.to.now) c.loop-place.invariant there),
)
