use Rattle.guppy_closure.proofs.Places.{place_in}
use Rattle.guppy_closure.proofs.known.held_at.Goals as goal

pub returns : goal.returns
returns g c =
    place_in g.met.F.Ord.total c.args.names.now c.requires.order c.args.fact.now c.in_ok-place.place c.contains.result c.args.closed.now.facts c.in_ok-place.ensures c.contains.ensures c.then_some.result c.then_some.ensures
