use Rattle.std.proofs.Common.{◌≡◌, ◌∙◌, ◌↔◌, refl, sym, ap, subst, ℕ, List, Bor, map, Contains, length}
use Rattle.std.proofs.lemmas.Result.{err_from_is_err_and}
use Rattle.std.proofs.lemmas.Iterator.{items_from_drains}
use Rattle.std.proofs.lemmas.Iterator.Consumers.{YieldsList-from_first}
use Rattle.guppy.specs.Listed.{listed_ids_left}
use Rattle.guppy.specs.Query.{IncludesId}
use Rattle.guppy_program.proofs.IncludedIds.{listed_is_included}
use Rattle.guppy_dot.proofs.GivenIds.{iff_trans, none_unknown}
use Rattle.guppy_program.proofs.answer.reach_from.Goals as goal

pub returns-in_err-set-clause-err : goal.returns-in_err-set-clause-err
returns-in_err-set-clause-err c =
    let passed_on = err_from_is_err_and c.from_residual.result c.from_residual.ensures.1 in
    rw (passed_on.1, passed_on.2) (none_unknown _ _ c.requires _ c.in_err-set.ensures.err)

pub returns-clause-ok : goal.returns-clause-ok
returns-clause-ok c =
    let set = c.in_ok-set.set in
    let ran = c.in_ok-listed.ensures.ran in
    let given = items_from_drains ran.0 ran.1 (YieldsList-from_first (λ (r : Bor (List ℕ)). r.now) listed_ids_left {s = c.package_ids.result} (listed_ids_left c.package_ids.result) refl) in
    let listed = ap (map (λ (r : Bor (List ℕ)). r.now)) ran.2.0 ∙ given ∙ c.package_ids.ensures.left in
    let count : length set.included ≡ length set.graph.packages = c.in_ok-set.ensures.count ∙ sym (ap (λ g. length g.packages) c.in_ok-set.ensures.graph) in
    let included = listed_is_included c.args.direction set count c.package_ids.ensures.ordered.order_is.listing in
    record {
      reached = map (λ (r : Bor (List ℕ)). r.now) c.in_ok-listed.listed.items;
      exact = λ id. iff_trans (subst (λ ids. Contains ids id ↔ IncludesId set id) (sym listed) (included id)) (c.in_ok-set.ensures.exact id);
      told = refl;
    }
