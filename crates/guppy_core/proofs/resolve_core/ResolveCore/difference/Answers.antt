use Rattle.std.proofs.Common.{◌∙◌, length, ap}
use Rattle.guppy_search.proofs.Exits.{if_ok}
use Rattle.guppy_core.proofs.resolve_core.ResolveCore.difference.Goals as goal

pub returns-clause-count : goal.returns-clause-count
returns-clause-count g c = ap length c.from_included.ensures ∙ (c.in_ok-rest.ensures.count ∙ ap length c.self.view_is)

pub returns-clause-members : goal.returns-clause-members
returns-clause-members g c = rw (c.from_included.ensures, ← c.self.view_is, ← c.other.view_is) c.in_ok-rest.ensures.members

pub returns-in_err-rest : goal.returns-in_err-rest
returns-in_err-rest g c = let none = c.from_residual.ensures.0 in record { count = if_ok _ _ none; members = if_ok _ _ none }
