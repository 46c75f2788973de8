use Rattle.std.proofs.Common.{◌≡◌, ◌++◌, map, string_bytes, filter}
use Rattle.std.specs.Prelude.{not}
use Rattle.guppy_command.specs.Command.{from_root}
use Rattle.guppy_command.specs.Shown.{texts}
use Rattle.guppy_command.specs.Text.{is_empty}
use Rattle.guppy_command.proofs.found.add_paths.Given as goal

abbrev pub invariant-loop-path : goal.invariant-loop-path
invariant-loop-path l = map string_bytes l.paths.items ≡ map string_bytes l.initial.paths.items ++ map from_root (filter (λ path. not (is_empty path)) (texts l.yielded))
