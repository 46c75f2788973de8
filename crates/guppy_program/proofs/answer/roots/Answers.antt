use Rattle.std.proofs.Common.{◌∙◌, refl, ap, subst, ℕ, List, Bor, map}
use Rattle.std.proofs.lemmas.Iterator.{items_from_drains}
use Rattle.std.proofs.lemmas.Iterator.Consumers.{YieldsList-from_first}
use Rattle.guppy.specs.Query.{SetData}
use Rattle.guppy.specs.Rooted.{AreRootIds, root_ids_left}
use Rattle.guppy_print.specs.Answer.{package_list}
use Rattle.guppy_program.proofs.WholeSet.{set_is_all}
use Rattle.guppy_program.proofs.answer.roots.Goals as goal

pub returns-clause-ok : goal.returns-clause-ok
returns-clause-ok c =
    let all = c.in_ok-all.all in
    let roots = c.in_ok-roots.roots in
    let ran = c.in_ok-ids.ensures.ran in
    let given = items_from_drains ran.0 ran.1 (YieldsList-from_first (λ (r : Bor (List ℕ)). r.now) root_ids_left {s = roots} (root_ids_left roots) refl) in
    record {
      root_ids = root_ids_left roots;
      exact = subst (λ (s : SetData). AreRootIds c.args.direction s (root_ids_left roots)) (set_is_all all c.args.graph.now c.in_ok-all.ensures.graph c.in_ok-all.ensures.all) c.in_ok-roots.ensures.roots;
      told = ap package_list (ap (map (λ (r : Bor (List ℕ)). r.now)) ran.2.0 ∙ given);
    }
