use Rattle.std.proofs.Common.{◌≡◌, ℕ, Bool, List, rules}
use Rattle.guppy_search.proofs.Exits.{if_ok}
use Rattle.guppy_search.specs.Resolve.{Visits}
use Rattle.guppy_search.proofs.Traces.{FoldsTo-along, IsCallable-along}
use Rattle.guppy_search.proofs.dfs.filtered.reachable_with_fn.Goals as goal

-- the state at the end, under another name
ends_at : {V : Type 0} (visits : V → ℕ → Bool → V → Type 0) (s : V) (trace : List (ℕ × Bool)) (t u : V) → Visits visits s trace t → u ≡ t → Visits visits s trace u
ends_at visits s trace t u h e = rw e h

pub reachable_with-requires-clause-ready : goal.reachable_with-requires-clause-ready
reachable_with-requires-clause-ready g c = IsCallable-along _ _ _ _ _ _ (λ a. a.filter.now) _ _ (λ a n h. h) (λ a n b t k. k) c.requires.callable

pub returns-clause-judged : goal.returns-clause-judged
returns-clause-judged g c =
    let s = c.in_ok-set.ensures.judged in
    (s.0, s.1, ends_at _ _ s.0 c.reachable_with.new.visitor.filter.now _ (FoldsTo-along (λ a. a.filter.now) _ _ (λ a e b k. k) s.0 _ _ s.2) (search rules))

pub returns-in_err-set-clause-count : goal.returns-in_err-set-clause-count
returns-in_err-set-clause-count g c = if_ok _ _ c.from_residual.ensures.0

pub returns-in_err-set-clause-judged : goal.returns-in_err-set-clause-judged
returns-in_err-set-clause-judged g c = if_ok _ _ c.from_residual.ensures.0
