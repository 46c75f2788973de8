-- Which build targets an iterator has still to give.
use Rattle.std.specs.Prelude.{List, slice_get}
use Rattle.std.specs.List.{filter_map}
use Rattle.std.specs.Slice.Iter.{iter_rest}
use Rattle.guppy_data.specs.declared.records.BuildTargetRecord.{BuildTargetRecord}
use Rattle.guppy.specs.declared.metadata.targets.BuildTargets.{BuildTargets}

-- the targets at the places that are left
abbrev pub targets_left : BuildTargets → List BuildTargetRecord
targets_left s = filter_map (slice_get s.targets.now) (iter_rest s.rest)
