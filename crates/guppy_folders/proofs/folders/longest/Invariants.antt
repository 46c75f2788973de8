use Rattle.std.proofs.Common.{length, map}
use Rattle.guppy_data.specs.Path.{components}
use Rattle.guppy_data.specs.Component.{part_shown}
use Rattle.guppy_data.specs.Utf8Path.{path_text}
use Rattle.guppy_folders.specs.Folders.{IsInside, lists_in}
use Rattle.guppy_folders.proofs.Sets.{NoLonger}
use Rattle.guppy_folders.proofs.folders.longest.Given as goal

abbrev pub invariant-loop-folder : goal.invariant-loop-folder
invariant-loop-folder l = record {
  inside : IsInside (map part_shown l.folder.items) (components (path_text l.path));
  no_longer : NoLonger (lists_in l.folders) (components (path_text l.path)) (length (map part_shown l.folder.items));
}

abbrev pub decreases-loop-folder : goal.decreases-loop-folder
decreases-loop-folder l = length l.folder.items
