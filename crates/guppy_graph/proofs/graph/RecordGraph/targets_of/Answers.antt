use Rattle.std.proofs.Common.{◌≡◌, Some, slice_get}
use Rattle.guppy_graph.specs.Accepted.{distinct_targets, named_targets}
use Rattle.guppy_graph.specs.Targets.{AreTargetsDistinct, AreTargetsNamed}
use Rattle.guppy_graph.proofs.Lists.{All-slice_get}
use Rattle.guppy_graph.proofs.graph.RecordGraph.targets_of.Goals as goal

pub returns-clause-named : goal.returns-clause-named
returns-clause-named c =
    let packages = c.self.inside.graph.nodes in
    let found : slice_get packages c.args.position ≡ Some c.node.result.now = rw c.ix_at.ensures at c.node.ensures in
    rw c.as_slice.ensures.value (All-slice_get AreTargetsNamed packages c.args.position c.node.result.now (c.self.invariant.graph.accepted named_targets) found)

pub returns-clause-distinct : goal.returns-clause-distinct
returns-clause-distinct c =
    let packages = c.self.inside.graph.nodes in
    let found : slice_get packages c.args.position ≡ Some c.node.result.now = rw c.ix_at.ensures at c.node.ensures in
    rw c.as_slice.ensures.value (All-slice_get AreTargetsDistinct packages c.args.position c.node.result.now (c.self.invariant.graph.accepted distinct_targets) found)
