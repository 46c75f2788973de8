use Rattle.std.proofs.Common.{◌∙◌, refl, ap, sym, subst, ℕ, List, Bor, map}
use Rattle.std.proofs.lemmas.Iterator.{items_from_drains}
use Rattle.std.proofs.lemmas.Iterator.Consumers.{YieldsList-from_first}
use Rattle.guppy_search.specs.declared.ix.direction.DependencyDirection.TheVariants.{Reverse}
use Rattle.guppy_search.specs.Reach.{Walk}
use Rattle.guppy_graph.specs.FirmCycles.{HasNoFirmCycle}
use Rattle.guppy_graph.specs.Graph.{GraphData}
use Rattle.guppy_graph.specs.Ordered.{FirmStep}
use Rattle.guppy.specs.Listed.{listed_ids_left, positions_listed, ids_at}
use Rattle.guppy_affected.proofs.affected_after.Goals as goal

pub returns-clause-answer : goal.returns-clause-answer
returns-clause-answer c =
    let members = c.in_ok-members.members in
    let named = c.in_ok-members.ensures.members in
    let same = c.in_ok-members.ensures.graph in
    let listed = c.package_ids-ids.ensures in
    let ran = c.in_ok-collect.ensures.ran in
    let given = items_from_drains ran.0 ran.1 (YieldsList-from_first (λ (r : Bor (List ℕ)). r.now) listed_ids_left {s = c.package_ids-ids.result} (listed_ids_left c.package_ids-ids.result) refl) in
    record {
      order = positions_listed Reverse members;
      is_order = record {
        once = listed.once;
        members = λ p. (λ s. (named.members p).0 ((listed.members p).0 s), λ m. (listed.members p).1 ((named.members p).1 m));
        listed = (members, same, refl);
        after = λ none x y s t other walk. listed.leads_on (subst HasNoFirmCycle (sym same) none) x y ((listed.members x).0 s) ((listed.members y).0 t) (subst (λ (g : GraphData). Walk (FirmStep g.links) x y) (sym same) walk) other;
      };
      ids_are = ap (λ (ids : List (Bor (List ℕ))). map (λ r. r.now) ids) ran.2.0
          ∙ given ∙ listed.left
          ∙ ap (λ (g : GraphData). ids_at g.packages (positions_listed Reverse members)) same;
    }
