use Rattle.std.proofs.Common.{◌≡◌, ◌↔◌, ◌<◌, refl, sym, ℕ, List, Bor, length}
use Rattle.std.proofs.lemmas.Iterator.Consumers.{YieldsList-from_first}
use Rattle.std.proofs.lemmas.Result.{err_from_is_err_and}
use Rattle.guppy.specs.Iterators.{ids_left}
use Rattle.guppy_search.specs.IxSet.{IsIn}
use Rattle.guppy.specs.Query.{SetData}
use Rattle.guppy_search.specs.Reach.{LinkStep, ReachedFrom}
use Rattle.guppy.specs.Walked.{IsWhole}
use Rattle.guppy_dot.proofs.Drawings.{all_from_all, permuted_known, reached_whole}
use Rattle.guppy_dot.proofs.GivenIds.{IfOk-both, drained_ids, first_unknown-given, none_unknown}
use Rattle.guppy_dot.proofs.drawing.all_reached.Goals as goal

pub returns-in_err-query_forward-clause-err : goal.returns-in_err-query_forward-clause-err
returns-in_err-query_forward-clause-err c =
    let ids = ids_left c.package_ids.result in
    let road = YieldsList-from_first (λ (r : Bor (List ℕ)). r.now) ids_left {s = c.package_ids.result} ids refl in
    let passed_on = err_from_is_err_and c.from_residual.result c.from_residual.ensures.1 in
    rw (passed_on.1, passed_on.2) (none_unknown _ ids (permuted_known _ ids c.package_ids.ensures) _ (first_unknown-given _ _ ids road _ _ c.in_err-query_forward.ensures.unknown))

pub returns-clause-all : goal.returns-clause-all
returns-clause-all c =
    let g = c.args.graph.now in
    let query = c.in_ok-query_forward.field-0 in
    let named = c.in_ok-query_forward.ensures.initials in
    let ids = ids_left c.package_ids.result in
    let road = YieldsList-from_first (λ (r : Bor (List ℕ)). r.now) ids_left {s = c.package_ids.result} ids refl in
    let all = drained_ids _ _ ids road named.0 named.1 in
    let Counts : SetData → Type 0 = λ set. length set.included ≡ length query.graph.packages in
    let Reaches : SetData → Type 0 = λ set. (p : ℕ) → IsIn set.included p ↔ ReachedFrom (LinkStep query.direction query.graph.links) (IsIn query.initials) p in
    let IsAll : SetData → Type 0 = λ set. (p : ℕ) → IsIn set.included p ↔ (p < length g.packages) in
    IfOk-both c.resolve.result Counts Reaches IsAll
    (λ set count reaches. all_from_all set g ids query.initials (rw c.in_ok-query_forward.ensures.graph at count) c.package_ids.ensures (rw all at named.2)
    (rw (c.in_ok-query_forward.ensures.direction, c.in_ok-query_forward.ensures.graph) at reaches))
    c.resolve.ensures.count c.resolve.ensures.reached

pub returns-clause-whole : goal.returns-clause-whole
returns-clause-whole c =
    let query = c.in_ok-query_forward.field-0 in
    let Same : SetData → Type 0 = λ set. set.graph ≡ query.graph in
    let Reaches : SetData → Type 0 = λ set. (p : ℕ) → IsIn set.included p ↔ ReachedFrom (LinkStep query.direction query.graph.links) (IsIn query.initials) p in
    IfOk-both c.resolve.result Same Reaches IsWhole
    (λ set same reaches. reached_whole set (IsIn query.initials) (rw (c.in_ok-query_forward.ensures.direction, sym same) at reaches))
    c.resolve.ensures.graph c.resolve.ensures.reached
