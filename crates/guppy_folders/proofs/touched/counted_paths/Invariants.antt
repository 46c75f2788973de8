use Rattle.std.proofs.Common.{map, take, string_bytes}
use Rattle.guppy_folders.specs.Folders.{lists_in}
use Rattle.guppy_folders.specs.Touched.{AreCounted}
use Rattle.guppy_folders.proofs.touched.counted_paths.Given as goal

abbrev pub invariant-loop-path : goal.invariant-loop-path
invariant-loop-path l = AreCounted (map string_bytes (take l.path-index l.paths)) (map string_bytes l.ignored) (lists_in l.counted.items)
