use Rattle.guppy_graph.specs.Accepted.{known_members}
use Rattle.guppy_graph.proofs.graph.RecordGraph.workspace_record.Goals as goal

pub returns-clause-known : goal.returns-clause-known
returns-clause-known c = rw (← c.self.view_is) (c.self.invariant.graph.accepted known_members)
