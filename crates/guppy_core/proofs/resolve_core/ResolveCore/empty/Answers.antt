use Rattle.guppy_search.proofs.Exits.{if_ok}
use Rattle.guppy_core.proofs.resolve_core.ResolveCore.empty.Goals as goal

pub returns-in_err-included : goal.returns-in_err-included
returns-in_err-included g c = if_ok _ _ c.from_residual.ensures.0
