use Rattle.std.proofs.Common.{◌∙◌, length, arith}
use Rattle.std.specs.List.{concat}
use Rattle.guppy_search.specs.declared.ix.direction.DependencyDirection.TheVariants.{Forward}
use Rattle.guppy_search.specs.Reach.{LinkStep}
use Rattle.guppy_core.specs.Topo.{IsTopo, HasNoCycle, LeadsOn}
use Rattle.guppy_core.specs.Sccs.{AreSccs}
use Rattle.guppy_core.specs.Order.{IsOrder}
use Rattle.guppy_graph.specs.Ordered.{FirmStep, is_firm}
use Rattle.guppy_graph.proofs.order.order_of.Goals as goal

pub returns-clause-ordered : goal.returns-clause-ordered
returns-clause-ordered c =
    let links = c.args.graph.now.links in
    let n = length c.args.graph.now.nodes in
    let index = c.in_ok-topo.topo in
    let blocks = c.in_ok-sccs.sccs in
    let same = c.new-counted.ensures.graph in
    let later = c.in_ok-topo.ensures.graph ∙ same in
    let topo : IsTopo (FirmStep links) n index = rw same at c.in_ok-topo.ensures.topo in
    let acyclic : HasNoCycle (FirmStep links) → LeadsOn (FirmStep links) index = rw same at c.in_ok-topo.ensures.acyclic in
    let sccs : AreSccs (LinkStep Forward links) n index blocks = rw later at c.in_ok-sccs.ensures.sccs in
    let order : IsOrder (LinkStep Forward links) n index (concat blocks) = rw later at c.in_ok-sccs.ensures.order in
    let on : LeadsOn (FirmStep links) index → LeadsOn (FirmStep links) (concat blocks) = rw later at (c.in_ok-sccs.ensures.leads_on is_firm) in
    record {
      index_is = topo;
      components_are = sccs;
      order_is = order;
      leads_on = λ h. on (acyclic h);
    }

pub returns-clause-looked : goal.returns-clause-looked
returns-clause-looked c =
    let same = c.new-counted.ensures.graph in
    let later = c.in_ok-topo.ensures.graph ∙ same in
    let none = c.new-counted.ensures.looks in
    let looked = rw same at c.in_ok-topo.ensures.looked in
    let twice = rw later at c.in_ok-sccs.ensures.twice in
    let is = looked.looked in
    let end = c.looks.ensures in
    record { set = looked.set; count = looked.count; members = looked.members; looked = omega arith }
