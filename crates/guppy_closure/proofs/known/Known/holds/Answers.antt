use Rattle.guppy_closure.proofs.KnownFacts.{told_by}
use Rattle.guppy_closure.proofs.known.Known.holds.Goals as goal

pub returns : goal.returns
returns g c =
    rw c.is_some.ensures (told_by g.met.F.Ord.total _ _ _ _ _ c.self.invariant c.args.fact.now c.held_at.result c.deref.result.now c.args.self.now c.deref.ensures.value c.self.view_is c.held_at.ensures)
