use Rattle.guppy_closure.proofs.KnownFacts.{facts_known, order_known}
use Rattle.guppy_closure.proofs.known.Known.facts.Goals as goal

pub returns-clause-holds : goal.returns-clause-holds
returns-clause-holds g c =
    facts_known g.met.F.Ord.total _ _ _ _ _ c.self.invariant c.held.result c.deref.result.now c.args.self.now c.deref.ensures.value c.self.view_is c.held.ensures

pub returns-clause-order : goal.returns-clause-order
returns-clause-order g c =
    order_known g.met.F.Ord.total _ _ _ _ _ c.self.invariant c.held.result c.deref.result.now c.deref.ensures.value c.held.ensures
