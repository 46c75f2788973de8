use Rattle.std.proofs.Common.{◌≡◌, take}
use Rattle.guppy_features.specs.Reasons.{reasons_of}
use Rattle.guppy_features.proofs.reason.reasons_of.Given as goal

abbrev pub invariant-loop-number : goal.invariant-loop-number
invariant-loop-number l = l.reasons.items ≡ reasons_of l.clauses (take l.number-index l.numbers)
