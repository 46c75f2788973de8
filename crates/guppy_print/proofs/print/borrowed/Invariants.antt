use Rattle.std.proofs.Common.{◌≡◌, map, take, string_bytes}
use Rattle.guppy_print.proofs.print.borrowed.Given as goal

abbrev pub invariant-loop-text : goal.invariant-loop-text
invariant-loop-text l = map (λ text. text.now) l.items.items ≡ map string_bytes (take l.text-index l.texts)
