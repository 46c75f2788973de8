use Rattle.std.proofs.Common.{◌≡◌, map, take, string_bytes}
use Rattle.guppy_command.specs.Printed.{lines_of}
use Rattle.guppy_command.proofs.print.lines_of.Given as goal

abbrev pub invariant-loop-text : goal.invariant-loop-text
invariant-loop-text l = string_bytes l.lines ≡ lines_of l.end (map (λ r. r.now) (take l.text-index l.texts))
