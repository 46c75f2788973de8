use Rattle.guppy_search.proofs.Exits.{if_ok}
use Rattle.guppy_core.proofs.resolve_core.ResolveCore.with_buffered_edge_filter_mut.Goals as goal

pub returns-in_err-included-clause-count : goal.returns-in_err-included-clause-count
returns-in_err-included-clause-count g c = if_ok _ _ c.from_residual.ensures.0

pub returns-in_err-included-clause-judged : goal.returns-in_err-included-clause-judged
returns-in_err-included-clause-judged g c = if_ok _ _ c.from_residual.ensures.0
