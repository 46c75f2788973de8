use Rattle.std.proofs.Common.{◌∙◌, refl, ap, subst, ℕ, List, Bor, map}
use Rattle.std.proofs.lemmas.Iterator.{items_from_drains}
use Rattle.std.proofs.lemmas.Iterator.Consumers.{YieldsList-from_first}
use Rattle.guppy_graph.specs.Graph.{IsInOrder}
use Rattle.guppy.specs.Listed.{listed_ids_left}
use Rattle.guppy_print.specs.Answer.{package_list}
use Rattle.guppy_program.proofs.PackageLists.{all_listed}
use Rattle.guppy_program.proofs.answer.order.Goals as goal

pub returns-clause-ok : goal.returns-clause-ok
returns-clause-ok c =
    let g = c.args.graph.now in
    let all = c.in_ok-all.all in
    let ran = c.in_ok-ids.ensures.ran in
    let given = items_from_drains ran.0 ran.1 (YieldsList-from_first (λ (r : Bor (List ℕ)). r.now) listed_ids_left {s = c.package_ids.result} (listed_ids_left c.package_ids.result) refl) in
    let ordered : IsInOrder g = subst IsInOrder c.in_ok-all.ensures.graph c.package_ids.ensures.ordered in
    record {
      ordered = ordered;
      told = ap package_list (ap (map (λ (r : Bor (List ℕ)). r.now)) ran.2.0 ∙ given ∙ c.package_ids.ensures.left
          ∙ all_listed g all c.in_ok-all.ensures.graph c.in_ok-all.ensures.all ordered.order_is.listing);
    }
