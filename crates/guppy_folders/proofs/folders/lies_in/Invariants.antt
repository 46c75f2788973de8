use Rattle.std.specs.Prelude.{◌↔◌}
use Rattle.guppy_data.specs.Component.{parts_left}
use Rattle.guppy_data.specs.Path.{components}
use Rattle.guppy_data.specs.Utf8Path.{path_text}
use Rattle.guppy_folders.specs.Folders.{IsInside}
use Rattle.guppy_folders.proofs.folders.lies_in.Given as goal

abbrev pub invariant-loop-part : goal.invariant-loop-part
invariant-loop-part l = IsInside (components (path_text l.folder)) (components (path_text l.path)) ↔ IsInside (parts_left l.part-iterator) (parts_left l.rest)
