use Rattle.std.proofs.Common.{map, take, string_bytes}
use Rattle.guppy_data.specs.Utf8Path.{path_text}
use Rattle.guppy_folders.specs.Touched.{IsIgnored}
use Rattle.guppy_folders.proofs.touched.is_ignored.Given as goal

abbrev pub invariant-loop-folder : goal.invariant-loop-folder
invariant-loop-folder l = IsIgnored (map string_bytes (take l.folder-index l.ignored)) (path_text l.path) → ⊥
