use Rattle.std.proofs.Common.{map, take}
use Rattle.std.specs.Prelude.{All}
use Rattle.guppy_data.specs.Component.{part_shown}
use Rattle.guppy_folders.specs.Folders.{IsName}
use Rattle.guppy_folders.proofs.names.all_names.Given as goal

abbrev pub invariant-loop-part : goal.invariant-loop-part
invariant-loop-part l = All IsName (map part_shown (take l.part-index l.parts))
