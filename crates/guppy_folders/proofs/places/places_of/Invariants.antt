use Rattle.std.proofs.Common.{◌≡◌, ◌++◌, map, take}
use Rattle.guppy_data.specs.Component.{part_shown}
use Rattle.guppy_folders.specs.Folders.{lists_in}
use Rattle.guppy_folders.specs.Places.{resolved}
use Rattle.guppy_folders.proofs.places.places_of.Given as goal

abbrev pub invariant-loop-path : goal.invariant-loop-path
invariant-loop-path l = lists_in l.places.items
    ≡ map (λ path. resolved (map part_shown l.root.items ++ path)) (lists_in (take l.path-index l.paths))
