use Rattle.std.proofs.Common.{◌<◌, All, subst}
use Rattle.std.specs.List.{concat}
use Rattle.guppy_search.specs.IxSet.{has}
use Rattle.guppy_graph.specs.Graph.{IsPackageGraph}
use Rattle.guppy_graph.specs.Ordered.{FirmStep}
use Rattle.guppy_graph.proofs.Rounds.{no_firm_round}
use Rattle.guppy.specs.Query.{SetData}
use Rattle.guppy.proofs.Precedence.{walk_leads, listed_precedes}
use Rattle.guppy.proofs.set.PackageSet.packages.Goals as goal

pub invariant_of-result : goal.invariant_of-result
invariant_of-result c = record { in_graph = subst (λ n. All (λ p. p < n) c.topo.result) c.self.invariant c.topo.ensures.below }

pub returns-clause-leads_on : goal.returns-clause-leads_on
returns-clause-leads_on c = λ none x y in_x in_y w other.
    let g = c.args.self.now.graph in
    let is : IsPackageGraph c.args.self.now.graph = subst (λ (s : SetData). IsPackageGraph s.graph) c.self.view_is c.sccs.ensures.graph in
    let leads = is.ordered.leads_on (no_firm_round g is none) in
    listed_precedes c.args.direction (has c.args.self.now.included) (concat g.components) x y in_x in_y (walk_leads (FirmStep g.links) (concat g.components) is.ordered.order_is.listing.once leads w other)
