use Rattle.std.proofs.Common.{ℕ, ◌<◌}
use Rattle.guppy_features.specs.Unresolved.{AreResolvedOf}
use Rattle.guppy_features.proofs.set.CargoSet.first_unresolved.Given as goal

abbrev pub invariant-loop-position : goal.invariant-loop-position
invariant-loop-position l = (o : ℕ) → o < l.position → AreResolvedOf l.self o
