use Rattle.std.proofs.Common.{length}
use Rattle.std.proofs.lemmas.Result.{IfOk-weaker}
use Rattle.guppy_search.proofs.Exits.{if_ok, on_ok}
use Rattle.guppy_search.specs.Reach.{Step}
use Rattle.guppy_search.specs.declared.ix.direction.DependencyDirection.TheVariants.{Forward}
use Rattle.guppy_core.proofs.Entrances.{root_or_entered}
use Rattle.guppy_core.proofs.Listings.{absence_below}
use Rattle.guppy_core.proofs.topo.roots.roots.Goals as goal

pub returns-clause-roots : goal.returns-clause-roots
returns-clause-roots g c =
    let R = Step {E = g.row.G-Edge.Denot} Forward g.kept c.args.graph.now.graph.links in
    IfOk-weaker c.absent.result _ _ (λ list a. root_or_entered R (length c.args.graph.now.graph.nodes) c.in_ok-entered.entered list.items c.in_ok-entered.ensures.count c.in_ok-entered.ensures.members a) c.absent.ensures

pub returns-clause-below : goal.returns-clause-below
returns-clause-below g c = IfOk-weaker c.absent.result _ _ (λ list a. absence_below (length c.args.graph.now.graph.nodes) c.in_ok-entered.entered list.items c.in_ok-entered.ensures.count a) c.absent.ensures

pub returns-clause-noted : goal.returns-clause-noted
returns-clause-noted g c = IfOk-weaker c.absent.result _ _ (λ list a. c.in_ok-entered.ensures.noted) c.absent.ensures

pub returns-clause-ascends : goal.returns-clause-ascends
returns-clause-ascends g c = IfOk-weaker c.absent.result _ _ (λ list a. a.ascends) c.absent.ensures

pub returns-clause-looks : goal.returns-clause-looks
returns-clause-looks g c = c.in_ok-entered.ensures.looks

pub returns-clause-counted : goal.returns-clause-counted
returns-clause-counted g c = c.in_ok-entered.ensures.counted

pub returns-clause-once : goal.returns-clause-once
returns-clause-once g c = IfOk-weaker c.absent.result _ _ (λ list a. c.in_ok-entered.ensures.once) c.absent.ensures

pub returns-clause-graph : goal.returns-clause-graph
returns-clause-graph g c = c.in_ok-entered.ensures.graph

pub returns-in_err-entered : goal.returns-in_err-entered
returns-in_err-entered g c = let none = c.from_residual.ensures.0 in record { noted = if_ok _ _ none; below = if_ok _ _ none; ascends = if_ok _ _ none; roots = if_ok _ _ none; looks = c.in_err-entered.ensures.looks; counted = c.in_err-entered.ensures.counted; once = on_ok _ _ none; graph = c.in_err-entered.ensures.graph }
