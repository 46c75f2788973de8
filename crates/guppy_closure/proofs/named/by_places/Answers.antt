use Rattle.guppy_closure.proofs.Places.{second_named, head_named}
use Rattle.guppy_closure.proofs.named.by_places.Goals as goal

pub place_if_some-requires-2-clause-named : goal.place_if_some-requires-2-clause-named
place_if_some-requires-2-clause-named g c = λ f e. c.requires.named f (second_named c.args.clause.now f e)

pub place_of-requires-clause-named : goal.place_of-requires-clause-named
place_of-requires-clause-named g c = c.requires.named _ (head_named c.args.clause.now)
