use Rattle.std.proofs.Common.{◌≡◌, take}
use Rattle.std.specs.List.{fold}
use Rattle.guppy_metadata.specs.Key.{and_letter}
use Rattle.guppy_metadata.proofs.key.name_key.Given as goal

abbrev pub invariant-loop-letter : goal.invariant-loop-letter
invariant-loop-letter l = l.key ≡ fold and_letter 0 (take l.letter-index l.last)
