use Rattle.guppy_graph.specs.Accepted.{distinct_names}
use Rattle.guppy_graph.proofs.Membership.{by_name_from_index}
use Rattle.guppy_graph.proofs.graph.RecordGraph.members_by_name.Goals as goal

pub returns : goal.returns
returns c = rw (c.as_slice.ensures.value, ← c.self.view_is) (by_name_from_index _ _ c.self.invariant.indexes.by_name (c.self.invariant.graph.accepted distinct_names))
