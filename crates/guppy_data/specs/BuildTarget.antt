-- What is seen of a build target.
use Rattle.guppy_data.specs.declared.records.BuildTargetRecord.{BuildTargetRecord}
use Rattle.guppy_data.specs.declared.views.build_target.BuildTarget.{BuildTarget}

-- the record that is seen
abbrev pub seen_target : BuildTarget → BuildTargetRecord
seen_target target = target.target.now
