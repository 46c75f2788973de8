use Rattle.guppy_search.proofs.Exits.{if_ok}
use Rattle.guppy_core.proofs.resolve_core.ResolveCore.with_edge_filter.Goals as goal

pub returns-in_err-included : goal.returns-in_err-included
returns-in_err-included g c = let none = c.from_residual.ensures.0 in record { count = if_ok _ _ none; judged = if_ok _ _ none }
