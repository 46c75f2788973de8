use Rattle.guppy_search.proofs.Exits.{if_ok}
use Rattle.guppy_core.proofs.resolve_core.ResolveCore.from_ixs.Goals as goal

pub returns-clause-members : goal.returns-clause-members
returns-clause-members g c = rw c.from_included.ensures c.in_ok-included.ensures.members

pub returns-in_err-included : goal.returns-in_err-included
returns-in_err-included g c = let none = c.from_residual.ensures.0 in record { count = if_ok _ _ none; members = if_ok _ _ none }
