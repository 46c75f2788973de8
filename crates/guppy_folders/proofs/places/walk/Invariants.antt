use Rattle.std.proofs.Common.{◌≡◌, map, drop, reverse}
use Rattle.guppy_data.specs.Component.{part_shown}
use Rattle.guppy_folders.specs.Places.{walked}
use Rattle.guppy_folders.proofs.places.walk.Given as goal

abbrev pub invariant-loop-part : goal.invariant-loop-part
invariant-loop-part l = walked (reverse (map part_shown l.place.items)) (map part_shown (drop l.part-index l.parts))
    ≡ walked (reverse (map part_shown l.fn.place.items)) (map part_shown l.parts)
