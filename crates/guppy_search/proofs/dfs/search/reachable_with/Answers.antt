use Rattle.std.proofs.Common.{refl}
use Rattle.guppy_search.proofs.Exits.{if_ok, on_err}
use Rattle.guppy_search.proofs.dfs.search.reachable_with.Goals as goal

pub returns-in_err-set : goal.returns-in_err-set
returns-in_err-set g c = let none = c.from_residual.ensures.0 in record { count = if_ok _ _ none; judged = if_ok _ _ none; same_place = refl; not_begun = on_err c.from_residual.result refl }

pub returns-in_err-waiting : goal.returns-in_err-waiting
returns-in_err-waiting g c = let none = c.from_residual-in_err-waiting.ensures.0 in record { count = if_ok _ _ none; judged = if_ok _ _ none; same_place = refl; not_begun = on_err c.from_residual-in_err-waiting.result refl }
