use Rattle.std.proofs.Common.{sym, ◌∙◌}
use Rattle.guppy_search.proofs.graph_core.counted.CountedGraph.look.Goals as goal

pub returns-clause-link : goal.returns-clause-link
returns-clause-link g c = let l = c.look_at-number.ensures.link in (l.0, l.1, l.2 ∙ c.index.ensures.position, l.3 ∙ sym c.new.ensures, l.4)
