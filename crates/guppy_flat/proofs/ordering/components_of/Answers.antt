use Rattle.std.proofs.Common.{◌∙◌, Bool, length}
use Rattle.std.specs.List.{concat}
use Rattle.guppy_search.specs.declared.ix.direction.DependencyDirection.TheVariants.{Forward}
use Rattle.guppy_search.specs.Reach.{LinkStep}
use Rattle.guppy_core.specs.Topo.{IsTopo, HasNoCycle, LeadsOn}
use Rattle.guppy_core.specs.Sccs.{AreSccs}
use Rattle.guppy_core.specs.Order.{IsOrder}
use Rattle.guppy_flat.specs.Search.{FlaggedStep}
use Rattle.guppy_flat.proofs.ordering.components_of.Goals as goal

pub returns : goal.returns
returns c =
    let links = c.args.graph.now.links in
    let n = length c.args.graph.now.nodes in
    let index = c.in_ok-topo.topo in
    let blocks = c.in_ok-sccs.sccs in
    let same = c.new-counted.ensures.graph in
    let later = c.in_ok-topo.ensures.graph ∙ same in
    let topo : IsTopo (FlaggedStep Forward links) n index = rw same at c.in_ok-topo.ensures.topo in
    let acyclic : HasNoCycle (FlaggedStep Forward links) → LeadsOn (FlaggedStep Forward links) index = rw same at c.in_ok-topo.ensures.acyclic in
    let sccs : AreSccs (LinkStep Forward links) n index blocks = rw later at c.in_ok-sccs.ensures.sccs in
    let order : IsOrder (LinkStep Forward links) n index (concat blocks) = rw later at c.in_ok-sccs.ensures.order in
    let on : LeadsOn (FlaggedStep Forward links) index → LeadsOn (FlaggedStep Forward links) (concat blocks) = rw later at (c.in_ok-sccs.ensures.leads_on (λ (flag : Bool). flag)) in
    record {
      index = index;
      index_is = topo;
      components_are = sccs;
      order_is = order;
      leads_on = λ h. on (acyclic h);
    }
