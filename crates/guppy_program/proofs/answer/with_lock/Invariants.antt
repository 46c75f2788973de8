use Rattle.std.proofs.Common.{◌≡◌, ◌∷◌, codes, map, string_bytes, take}
use Rattle.guppy_program.proofs.answer.with_lock.Given as goal

abbrev pub invariant-loop-folder : goal.invariant-loop-folder
invariant-loop-folder l = map string_bytes l.more.items ≡ codes "Cargo.lock" ∷ map string_bytes (take l.folder-index l.ignored)
