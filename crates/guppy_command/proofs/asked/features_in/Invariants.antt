use Rattle.std.proofs.Common.{◌≡◌, take}
use Rattle.std.specs.List.{flat_map}
use Rattle.guppy_command.specs.Builds.{features_of}
use Rattle.guppy_command.specs.Shown.{texts}
use Rattle.guppy_command.proofs.asked.features_in.Given as goal

abbrev pub invariant-loop-value : goal.invariant-loop-value
invariant-loop-value l = texts l.features.items ≡ flat_map features_of (texts (take l.value-index l.values))
