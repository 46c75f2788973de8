use Rattle.std.proofs.Common.{take}
use Rattle.std.specs.Prelude.{All}
use Rattle.guppy_flat.specs.Flat.{AreKnown}
use Rattle.guppy_flat.proofs.flat.first_unknown.Given as goal

abbrev pub invariant-loop-number : goal.invariant-loop-number
invariant-loop-number l = All (AreKnown l.count) (take l.number l.links)
