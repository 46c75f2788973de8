use Rattle.guppy_graph.specs.Accepted.{distinct_paths}
use Rattle.guppy_graph.proofs.Membership.{by_path_from_index}
use Rattle.guppy_graph.proofs.graph.RecordGraph.members_by_path.Goals as goal

pub returns : goal.returns
returns c = rw (c.as_slice.ensures.value, ← c.self.view_is) (by_path_from_index _ _ c.self.invariant.indexes.by_path (c.self.invariant.graph.accepted distinct_paths))
