use Rattle.std.specs.Prelude.{◌↔◌, All}
use Rattle.guppy_data.specs.Component.{parts_left}
use Rattle.guppy_folders.specs.Folders.{IsName}
use Rattle.guppy_folders.proofs.names.are_names.Given as goal

abbrev pub invariant-loop-part : goal.invariant-loop-part
invariant-loop-part l = All IsName (parts_left l.fn.parts) ↔ All IsName (parts_left l.part-iterator)
