use Rattle.std.proofs.Common.{◌≡◌, false, map, take, string_bytes}
use Rattle.guppy_metadata.specs.Members.{is_among}
use Rattle.guppy_metadata.proofs.target.is_among.Given as goal

abbrev pub invariant-loop-text : goal.invariant-loop-text
invariant-loop-text l = is_among (map string_bytes (take l.text-index l.texts)) l.wanted ≡ false
