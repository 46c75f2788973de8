use Rattle.guppy_search.proofs.Exits.{if_ok}
use Rattle.guppy_search.proofs.Resolves.{accepting_reaches, accepts_all}
use Rattle.guppy_search.proofs.dfs.search.reachable.Goals as goal

pub returns-clause-judged : goal.returns-clause-judged
returns-clause-judged g c =
    let s = c.in_ok-set.ensures.judged in
    (s.0, s.1, accepts_all _ (λ q n b t h. h) s.0 _ _ s.2)

pub returns-clause-reached : goal.returns-clause-reached
returns-clause-reached g c =
    let s = c.in_ok-set.ensures.judged in
    accepting_reaches _ _ _ s.0 _ s.1 (accepts_all _ (λ q n b t h. h) s.0 _ _ s.2)

pub returns-in_err-set : goal.returns-in_err-set
returns-in_err-set g c = let none = c.from_residual.ensures.0 in record { count = if_ok _ _ none; judged = if_ok _ _ none; reached = if_ok _ _ none }
