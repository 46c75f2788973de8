use Rattle.std.proofs.Common.{◌∙◌, ap, sym, subst}
use Rattle.guppy_search.specs.declared.ix.direction.DependencyDirection.TheVariants.{Reverse}
use Rattle.guppy_search.specs.Reach.{Walk}
use Rattle.guppy_graph.specs.FirmCycles.{HasNoFirmCycle}
use Rattle.guppy_graph.specs.Graph.{GraphData}
use Rattle.guppy_graph.specs.Ordered.{FirmStep}
use Rattle.guppy.specs.Listed.{positions_listed, ids_at}
use Rattle.guppy_publish.proofs.members_in_order.Goals as goal

pub returns-clause-order : goal.returns-clause-order
returns-clause-order c =
    let members = c.in_ok-members.members in
    let named = c.in_ok-members.ensures.members in
    let same = c.in_ok-members.ensures.graph in
    let listed = c.package_ids.ensures in
    let none : HasNoFirmCycle members.graph = subst HasNoFirmCycle (sym same) c.requires in
    record {
      order = positions_listed Reverse members;
      is_order = record {
        once = listed.once;
        members = λ p. (λ s. (named.members p).0 ((listed.members p).0 s), λ m. (listed.members p).1 ((named.members p).1 m));
        after = λ x y s t other walk. listed.leads_on none x y ((listed.members x).0 s) ((listed.members y).0 t) (subst (λ (g : GraphData). Walk (FirmStep g.links) x y) (sym same) walk) other;
      };
      ids_are = c.in_ok-ids.ensures.ids ∙ listed.left
          ∙ ap (λ (g : GraphData). ids_at g.packages (positions_listed Reverse members)) same;
    }
