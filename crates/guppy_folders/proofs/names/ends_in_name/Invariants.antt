use Rattle.std.specs.Prelude.{◌≡◌, ◌↔◌, IsTrue, List, ◌++◌}
use Rattle.guppy_data.specs.Component.{parts_left}
use Rattle.guppy_data.specs.Path.{Part, components}
use Rattle.guppy_data.specs.Utf8Path.{path_text}
use Rattle.guppy_folders.specs.Folders.{EndsInName}
use Rattle.guppy_folders.proofs.names.ends_in_name.Given as goal

-- the components that were seen, and whether they end in the name
abbrev pub invariant-loop-part : goal.invariant-loop-part
invariant-loop-part l = (seen : List Part) × (components (path_text l.path) ≡ seen ++ parts_left l.part-iterator) × (IsTrue l.ends ↔ EndsInName l.name seen)
