use Rattle.guppy_search.proofs.Exits.{if_ok}
use Rattle.guppy_search.proofs.dfs.buffered.reachable_buffered.Goals as goal

pub returns-in_err-set : goal.returns-in_err-set
returns-in_err-set g c = let none = c.from_residual.ensures.0 in record { count = if_ok _ _ none; judged = if_ok _ _ none }
