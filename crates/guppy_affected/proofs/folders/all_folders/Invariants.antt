use Rattle.std.proofs.Common.{List, map, Contains}
use Rattle.std.specs.Prelude.{◌↔◌}
use Rattle.guppy_data.specs.Path.{Part}
use Rattle.guppy.specs.Views.{package_seen}
use Rattle.guppy_folders.specs.Folders.{lists_in}
use Rattle.guppy_folders.proofs.Elements.{One}
use Rattle.guppy_affected.proofs.Local.{HasFolder}
use Rattle.guppy_affected.proofs.folders.all_folders.Given as goal

abbrev pub invariant-loop-package : goal.invariant-loop-package
invariant-loop-package l = (folder : List Part) → Contains (lists_in l.folders.items) folder ↔ One (map package_seen l.yielded) (HasFolder folder)
