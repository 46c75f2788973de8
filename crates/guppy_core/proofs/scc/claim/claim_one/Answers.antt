use Rattle.guppy_search.proofs.Exits.{on_ok}
use Rattle.guppy_core.proofs.scc.claim.claim_one.Goals as goal

pub returns-in_err-push : goal.returns-in_err-push
returns-in_err-push g c = let none = c.from_residual.ensures.0 in record { marks = on_ok _ _ none; numbers = on_ok _ _ none }
