use Rattle.std.proofs.Common.{◌≤◌, length, arith, vec_capacity}
use Rattle.guppy_search.proofs.Exits.{if_ok}
use Rattle.guppy_search.proofs.Traces.{FoldsTo-along, IsCallable-along, length-judged, trace_kept}
use Rattle.guppy_search.proofs.dfs.recorder.reachable_recorded.Goals as goal

pub reachable_with-requires-clause-ready : goal.reachable_with-requires-clause-ready
reachable_with-requires-clause-ready g c = IsCallable-along _ _ _ _ _ _ (λ r. r.visitor) _ _ (λ r n h. h) (λ r n b t k. k.0) (rw (← c.in_ok-recorder.ensures.visitor) at c.requires.ready)

pub returns : goal.returns
returns g c =
    let s = c.in_ok-set.ensures.judged in
    let fits : length s.0 ≤ vec_capacity c.in_ok-recorder.recorder.entries = let few = length-judged _ _ _ _ _ s.1 in omega (arith, c.link_count.ensures, c.in_ok-recorder.ensures.room) in
    let same = trace_kept _ (λ r. r.entries.items) (λ r. vec_capacity r.entries) (λ r e t k. (k.1, k.2)) s.0 _ _ c.in_ok-recorder.ensures.entries fits s.2 in
    record {
      count = c.in_ok-set.ensures.count;
      judged = rw same s.1;
      visits = rw (same, ← c.in_ok-recorder.ensures.visitor) (FoldsTo-along (λ r. r.visitor) _ _ (λ r e t k. k.0) s.0 _ _ s.2);
    }

pub returns-in_err-recorder : goal.returns-in_err-recorder
returns-in_err-recorder g c = let none = c.from_residual.ensures.0 in record { count = if_ok _ _ none; judged = if_ok _ _ none; visits = if_ok _ _ none }

pub returns-in_err-set : goal.returns-in_err-set
returns-in_err-set g c = let none = c.from_residual-in_err-set.ensures.0 in record { count = if_ok _ _ none; judged = if_ok _ _ none; visits = if_ok _ _ none }
