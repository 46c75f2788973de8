use Rattle.std.proofs.Common.{map, take}
use Rattle.guppy_data.specs.Component.{part_shown}
use Rattle.guppy_folders.specs.Folders.{lists_in}
use Rattle.guppy_folders.specs.Places.{MeetsOne}
use Rattle.guppy_folders.proofs.places.meets_one.Given as goal

abbrev pub invariant-loop-place : goal.invariant-loop-place
invariant-loop-place l = MeetsOne (map part_shown l.folder) (lists_in (take l.place-index l.places)) → ⊥
