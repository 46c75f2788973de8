use Rattle.std.proofs.Common.{◌≡◌, refl, List, drop}
use Rattle.guppy_publish.specs.Needs.{ends}
use Rattle.guppy_publish.proofs.Adding.{behind_there}
use Rattle.guppy_publish.proofs.needs.place_near.Goals as goal

pub returns-in-Some-clause-linked : goal.returns-in-Some-clause-linked
returns-in-Some-clause-linked c = (
  λ is. behind_there ends c.args.links.now c.args.start (c.args.from.now, c.args.to.now) (c.in-Some.ensures.linked.0 is),
  λ there. refl,
)
