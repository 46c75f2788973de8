use Rattle.std.proofs.Common.{take}
use Rattle.guppy_features.specs.Reasons.{AreLeading}
use Rattle.guppy_features.proofs.reason.ways_of.Given as goal

abbrev pub invariant-loop-clause : goal.invariant-loop-clause
invariant-loop-clause l = AreLeading (take l.clause-index l.clause-items) l.known l.fact l.ways.items
