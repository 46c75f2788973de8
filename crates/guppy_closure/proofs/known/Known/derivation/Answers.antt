use Rattle.std.proofs.Common.{Some, None}
use Rattle.guppy_closure.proofs.KnownFacts.{told_by, order_by, last_by, needed_by}
use Rattle.guppy_closure.proofs.known.Known.derivation.Goals as goal

pub returns-in_default-clause-holds : goal.returns-in_default-clause-holds
returns-in_default-clause-holds g c =
    told_by g.met.F.Ord.total _ _ _ _ _ c.self.invariant c.args.fact.now None c.deref.result.now c.args.self.now c.deref.ensures.value c.self.view_is c.in_default.ensures

pub returns-clause-holds : goal.returns-clause-holds
returns-clause-holds g c =
    told_by g.met.F.Ord.total _ _ _ _ _ c.self.invariant c.args.fact.now (Some c.in-Some.place) c.deref.result.now c.args.self.now c.deref.ensures.value c.self.view_is c.in-Some.ensures

pub returns-clause-order : goal.returns-clause-order
returns-clause-order g c =
    order_by g.met.F.Ord.total _ _ _ _ _ c.self.invariant c.deref-2.result.now c.args.self.now c.deref-2.ensures.value c.self.view_is c.in_ok-derivation.field-0.items c.in_ok-derivation.ensures.order

pub returns-clause-last : goal.returns-clause-last
returns-clause-last g c =
    last_by g.met.F.Ord.total _ _ _ _ _ c.self.invariant c.deref-2.result.now c.args.self.now c.deref-2.ensures.value c.self.view_is c.in_ok-derivation.field-0.items c.args.fact.now c.in-Some.place c.deref.result.now c.deref.ensures.value c.in-Some.ensures.0 c.in_ok-derivation.ensures.last

pub returns-clause-needed : goal.returns-clause-needed
returns-clause-needed g c =
    needed_by g.met.F.Ord.total _ _ _ _ _ c.self.invariant c.deref-2.result.now c.args.self.now c.deref-2.ensures.value c.self.view_is c.in_ok-derivation.field-0.items c.args.fact.now c.in-Some.place c.deref.result.now c.deref.ensures.value c.in-Some.ensures.0 c.in_ok-derivation.ensures.needed
