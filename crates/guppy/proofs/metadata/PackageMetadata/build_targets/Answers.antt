use Rattle.std.proofs.Common.{◌≡◌}
use Rattle.guppy_graph.specs.Indexes.{IsTargetIndex}
use Rattle.guppy_graph.proofs.Lists.{some_at}
use Rattle.guppy_graph.proofs.TargetLists.{targets_below, targets_by_id}
use Rattle.guppy.proofs.metadata.PackageMetadata.build_targets.Goals as goal

pub invariant_of-result : goal.invariant_of-result
invariant_of-result c =
    let r = some_at c.args.self.graph.now.packages c.args.self.position c.args.self.in_graph in
    let up : IsTargetIndex r.0.build_targets.items c.targets_by_id.result.now = rw r.1 at c.targets_by_id.ensures in
    let same : c.targets_of.result.now ≡ r.0.build_targets.items = rw r.1 at c.targets_of.ensures.targets in
    record {
      in_package = rw (c.iter.ensures.rest, same) (targets_below r.0.build_targets.items c.targets_by_id.result.now up);
      named = c.targets_of.ensures.named;
    }

pub returns : goal.returns
returns c =
    let r = some_at c.args.self.graph.now.packages c.args.self.position c.args.self.in_graph in
    let up : IsTargetIndex r.0.build_targets.items c.targets_by_id.result.now = rw r.1 at c.targets_by_id.ensures in
    let same : c.targets_of.result.now ≡ r.0.build_targets.items = rw r.1 at c.targets_of.ensures.targets in
    rw (r.1, same, c.iter.ensures.rest) (targets_by_id r.0.build_targets.items c.targets_by_id.result.now up (rw same at c.targets_of.ensures.distinct))
