use Rattle.std.proofs.Common.{◌≡◌, ℕ, List, ◌++◌, drop, codes}
use Rattle.std.specs.Fmt.{HasWritten, IsPlainFormatter}
use Rattle.std.specs.List.{flat_map}
use Rattle.std.specs.String.{string_bytes}
use Rattle.guppy_data.specs.Texts.{joined_text}
use Rattle.guppy_data.proofs.texts.sorted_set.write_joined.Given as goal

abbrev pub invariant-loop-name : goal.invariant-loop-name
invariant-loop-name g l =
    IsPlainFormatter l.fn.f → (written : List ℕ) × HasWritten g.W.Write.write_str_gives l.fn.f written l.f × (written ++ flat_map (λ name. codes ", " ++ string_bytes name) (drop l.name-index l.rest) ≡ joined_text l.fn.names)
