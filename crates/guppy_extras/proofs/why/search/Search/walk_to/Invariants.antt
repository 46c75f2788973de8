use Rattle.guppy_extras.proofs.WayBack.{IsBack}
use Rattle.guppy_extras.proofs.why.search.Search.walk_to.Given as goal

abbrev pub invariant-back : goal.invariant-back
invariant-back l = IsBack l.self.start l.self.found.items l.place l.at l.walk.items

abbrev pub decreases-back : goal.decreases-back
decreases-back l = l.at
