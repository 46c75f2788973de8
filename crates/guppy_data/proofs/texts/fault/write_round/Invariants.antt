use Rattle.std.proofs.Common.{◌≡◌, ℕ, List, ◌++◌, drop, codes}
use Rattle.std.specs.Fmt.{HasWritten, IsPlainFormatter}
use Rattle.std.specs.List.{flat_map}
use Rattle.guppy_data.proofs.texts.fault.write_round.Given as goal

abbrev pub invariant-loop-id : goal.invariant-loop-id
invariant-loop-id g l =
    IsPlainFormatter l.fn.f → (written : List ℕ) × HasWritten g.W.Write.write_str_gives l.fn.f written l.f × (written ++ flat_map (λ id. id ++ codes " -> ") (drop l.id-index l.ids) ≡ flat_map (λ id. id ++ codes " -> ") l.ids)
