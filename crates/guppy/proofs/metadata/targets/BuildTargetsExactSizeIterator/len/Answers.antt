use Rattle.std.proofs.Common.{◌∙◌, sym}
use Rattle.std.specs.Slice.Iter.{iter_rest}
use Rattle.guppy_graph.proofs.TargetLists.{targets_read}
use Rattle.guppy.proofs.metadata.targets.BuildTargetsExactSizeIterator.len.Goals as goal

pub returns-clause-value : goal.returns-clause-value
returns-clause-value c =
    let s = c.args.self.now in
    c.len.ensures.value ∙ sym (targets_read s.targets.now (iter_rest s.rest) s.in_package)
