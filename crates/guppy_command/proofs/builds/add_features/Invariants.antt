use Rattle.std.proofs.Common.{◌≡◌, ◌++◌}
use Rattle.std.specs.List.{flat_map}
use Rattle.guppy_command.specs.Builds.{spaced}
use Rattle.guppy_command.specs.Shown.{texts}
use Rattle.guppy_command.proofs.builds.add_features.Given as goal

abbrev pub invariant-loop-text : goal.invariant-loop-text
invariant-loop-text l = texts l.features.items ≡ texts l.initial.features.items ++ flat_map spaced (texts l.yielded)
