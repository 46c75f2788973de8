use Rattle.std.specs.Prelude.{◌↔◌}
use Rattle.guppy_data.specs.Component.{parts_left}
use Rattle.guppy_data.specs.Path.{components}
use Rattle.guppy_data.specs.Utf8Path.{path_text}
use Rattle.guppy_folders.specs.Folders.{HasName}
use Rattle.guppy_folders.proofs.names.has_name.Given as goal

abbrev pub invariant-loop-part : goal.invariant-loop-part
invariant-loop-part l = HasName l.name (components (path_text l.path)) ↔ HasName l.name (parts_left l.part-iterator)
