use Rattle.guppy_search.proofs.Rows.{row_within}
use Rattle.guppy_search.proofs.graph_core.graph.Graph.links_of.Goals as goal

pub returns-clause-within : goal.returns-clause-within
returns-clause-within g c = row_within _ _ _ c.links_at.result.now c.links_at.ensures.links
