use Rattle.std.proofs.Common.{◌≡◌, ◌∙◌, ◌↔◌, ℕ, List}
use Rattle.std.proofs.lemmas.Result.{err_from_is_err_and}
use Rattle.std.proofs.lemmas.Iterator.{YieldsList-from_slice}
use Rattle.guppy_search.specs.IxSet.{IsIn}
use Rattle.guppy_search.specs.Reach.{LinkStep, ReachedFrom}
use Rattle.guppy.specs.Query.{IncludesId, SetData}
use Rattle.guppy_program.specs.Answer.{IsReached}
use Rattle.guppy_program.proofs.ReachedIds.{included_is_reached}
use Rattle.guppy_dot.proofs.GivenIds.{drained_ids, first_unknown-given, IfOk-both}
use Rattle.guppy_program.proofs.answer.reached.Goals as goal

pub returns-in_err-query_directed-clause-err : goal.returns-in_err-query_directed-clause-err
returns-in_err-query_directed-clause-err c =
    let passed_on = err_from_is_err_and c.from_residual.result c.from_residual.ensures.1 in
    rw (passed_on.1, passed_on.2) (first_unknown-given _ _ _ (YieldsList-from_slice _ c.iter.ensures.rest) _ _ c.in_err-query_directed.ensures.unknown)

pub returns-clause-exact : goal.returns-clause-exact
returns-clause-exact c =
    let query = c.in_ok-query_directed.field-0 in
    let named = c.in_ok-query_directed.ensures.initials in
    let all = drained_ids _ _ _ (YieldsList-from_slice _ c.iter.ensures.rest) named.0 named.1 in
    let Same : SetData → Type 0 = λ set. set.graph ≡ query.graph in
    let Reaches : SetData → Type 0 = λ set. (p : ℕ) → IsIn set.included p ↔ ReachedFrom (LinkStep query.direction query.graph.links) (IsIn query.initials) p in
    let Exact : SetData → Type 0 = λ set. (id : List ℕ) → IncludesId set id ↔ IsReached c.args.direction c.args.graph.now c.args.ids.now id in
    IfOk-both c.resolve.result Same Reaches Exact
    (λ set same reaches. included_is_reached c.args.direction set c.args.graph.now c.args.ids.now query.initials (rw all at named.2) (same ∙ c.in_ok-query_directed.ensures.graph)
    (rw (c.in_ok-query_directed.ensures.direction, c.in_ok-query_directed.ensures.graph) at reaches))
    c.resolve.ensures.graph c.resolve.ensures.reached
