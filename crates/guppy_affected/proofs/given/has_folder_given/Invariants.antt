use Rattle.std.proofs.Common.{take}
use Rattle.guppy.specs.Views.{graph_of, package_position}
use Rattle.guppy_folders.specs.Folders.{lists_in}
use Rattle.guppy_folders.specs.Places.{MeetsOne}
use Rattle.guppy_affected.specs.Folders.{given_in, HasFolderGiven}
use Rattle.guppy_affected.proofs.given.has_folder_given.Given as goal

-- none of the folders that were seen is given to the package and meets one of the places
abbrev pub invariant-loop-folder : goal.invariant-loop-folder
invariant-loop-folder l = HasFolderGiven (graph_of l.metadata).now (given_in (take l.folder-index l.also))
    (λ folder. MeetsOne folder (lists_in l.places)) (package_position l.metadata) → ⊥
