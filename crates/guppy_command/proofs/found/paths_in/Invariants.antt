use Rattle.std.proofs.Common.{◌≡◌, ℕ, List, map, take, string_bytes}
use Rattle.std.specs.List.{AllZip, flat_map}
use Rattle.guppy_command.specs.Asked.{HasPaths}
use Rattle.guppy_command.specs.Paths.{paths_of}
use Rattle.guppy_command.specs.Shown.{texts}
use Rattle.guppy_command.proofs.found.paths_in.Given as goal

abbrev pub invariant-loop-file : goal.invariant-loop-file
invariant-loop-file g l = (lists : List (List ℕ)) × AllZip (HasPaths (g.D.Files.has l.files)) (texts (take l.file-index l.names)) lists
    × (map string_bytes l.paths.items ≡ flat_map paths_of lists)
