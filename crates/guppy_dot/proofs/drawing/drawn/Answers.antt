use Rattle.std.proofs.Common.{◌≡◌, ◌↔◌, ◌<◌, sym, arith, ℕ, length}
use Rattle.std.proofs.lemmas.Iterator.{YieldsList-from_slice}
use Rattle.std.proofs.lemmas.Result.{err_from_is_err_and}
use Rattle.guppy_search.specs.IxSet.{IsIn}
use Rattle.guppy.specs.Query.{SetData}
use Rattle.guppy_search.specs.Reach.{LinkStep, ReachedFrom}
use Rattle.guppy.specs.Walked.{IsWhole}
use Rattle.guppy_dot.specs.Dot.{IsDrawn}
use Rattle.guppy_dot.proofs.Drawings.{reached_drawn, reached_whole}
use Rattle.guppy_dot.proofs.GivenIds.{IfOk-both, drained_ids, first_unknown-given, none_unknown}
use Rattle.guppy_dot.proofs.drawing.drawn.Goals as goal

pub returns-in_err-query_forward-clause-err : goal.returns-in_err-query_forward-clause-err
returns-in_err-query_forward-clause-err c =
    let passed_on = err_from_is_err_and c.from_residual.result c.from_residual.ensures.1 in
    rw (passed_on.1, passed_on.2) (none_unknown _ _ c.requires _ (first_unknown-given _ _ _ (YieldsList-from_slice _ c.iter.ensures.rest) _ _ c.in_err-query_forward.ensures.unknown))

pub returns-in_ok-query_forward-clause-exact : goal.returns-in_ok-query_forward-clause-exact
returns-in_ok-query_forward-clause-exact c =
    let g = c.args.graph.now in
    let ids = c.args.ids.now in
    let query = c.in_ok-query_forward.field-0 in
    let named = c.in_ok-query_forward.ensures.initials in
    let all = drained_ids _ _ _ (YieldsList-from_slice _ c.iter.ensures.rest) named.0 named.1 in
    let some : 0 < length ids = grind arith in
    let Same : SetData → Type 0 = λ set. set.graph ≡ query.graph in
    let Reaches : SetData → Type 0 = λ set. (p : ℕ) → IsIn set.included p ↔ ReachedFrom (LinkStep query.direction query.graph.links) (IsIn query.initials) p in
    let Exact : SetData → Type 0 = λ set. (p : ℕ) → IsIn set.included p ↔ IsDrawn g ids p in
    IfOk-both c.resolve.result Same Reaches Exact
    (λ set same reaches. reached_drawn set g ids query.initials some (rw all at named.2)
    (rw (c.in_ok-query_forward.ensures.direction, c.in_ok-query_forward.ensures.graph) at reaches))
    c.resolve.ensures.graph c.resolve.ensures.reached

pub returns-in_ok-query_forward-clause-whole : goal.returns-in_ok-query_forward-clause-whole
returns-in_ok-query_forward-clause-whole c =
    let query = c.in_ok-query_forward.field-0 in
    let Same : SetData → Type 0 = λ set. set.graph ≡ query.graph in
    let Reaches : SetData → Type 0 = λ set. (p : ℕ) → IsIn set.included p ↔ ReachedFrom (LinkStep query.direction query.graph.links) (IsIn query.initials) p in
    IfOk-both c.resolve.result Same Reaches IsWhole
    (λ set same reaches. reached_whole set (IsIn query.initials) (rw (c.in_ok-query_forward.ensures.direction, sym same) at reaches))
    c.resolve.ensures.graph c.resolve.ensures.reached
