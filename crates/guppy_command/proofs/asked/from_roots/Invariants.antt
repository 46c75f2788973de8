use Rattle.std.proofs.Common.{◌≡◌, map, take, string_bytes}
use Rattle.guppy_command.specs.Command.{from_root}
use Rattle.guppy_command.specs.Shown.{texts}
use Rattle.guppy_command.proofs.asked.from_roots.Given as goal

abbrev pub invariant-loop-path : goal.invariant-loop-path
invariant-loop-path l = map string_bytes l.copies.items ≡ map from_root (texts (take l.path-index l.paths))
