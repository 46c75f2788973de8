use Rattle.guppy_closure.proofs.Places.{found_at}
use Rattle.guppy_closure.proofs.named.find.Goals as goal

pub returns-in-None : goal.returns-in-None
returns-in-None g c =
    rw c.ok.ensures.value (found_at g.met.F.Ord.total c.args.names.now c.requires.order c.requires.exact c.args.fact.now c.binary_search.result c.binary_search.ensures.bound c.binary_search.ensures.position)
