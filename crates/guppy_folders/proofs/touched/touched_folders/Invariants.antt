use Rattle.std.proofs.Common.{map, take, string_bytes}
use Rattle.guppy_folders.specs.Folders.{lists_in}
use Rattle.guppy_folders.specs.Touched.{AreLongest}
use Rattle.guppy_folders.proofs.touched.touched_folders.Given as goal

abbrev pub invariant-loop-path : goal.invariant-loop-path
invariant-loop-path l = AreLongest (lists_in l.folders) (map string_bytes (take l.path-index l.paths)) (map string_bytes l.ignored) (lists_in l.touched.items)
