-- The name of a build target.
use Rattle.std.specs.Prelude.{ℕ, List, Option}
use Rattle.std.specs.Option.{option_map, option_or}
use Rattle.std.specs.String.{string_bytes}
use Rattle.guppy_data.specs.declared.records.BuildTargetRecord.{BuildTargetRecord}
use Rattle.guppy_data.specs.BuildTargetId.{id_name, recorded_id}

-- the name in the ID, or else, of a library or build script, the library's name
abbrev pub target_name : BuildTargetRecord → Option (List ℕ)
target_name target =
    option_or (id_name (recorded_id target.id)) (option_map string_bytes target.lib_name)
