use Rattle.guppy_graph.proofs.UnknownTexts.{first_unknown-alone}
use Rattle.guppy_graph.proofs.graph.RecordGraph.ix_of.Goals as goal

pub returns-in_ok-clone-in-None-clause-unknown : goal.returns-in_ok-clone-in-None-clause-unknown
returns-in_ok-clone-in-None-clause-unknown c = rw c.in_ok-clone-in-None.ensures.cases (first_unknown-alone _ _ c.in-None.ensures.found)
