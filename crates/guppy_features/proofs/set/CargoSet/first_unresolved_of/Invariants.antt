use Rattle.std.proofs.Common.{ℕ, ◌<◌}
use Rattle.guppy_features.specs.Unresolved.{IsUnresolved}
use Rattle.guppy_features.proofs.set.CargoSet.first_unresolved_of.Given as goal

abbrev pub invariant-loop-place : goal.invariant-loop-place
invariant-loop-place l = (m : ℕ) → m < l.place → ¬ IsUnresolved l.self l.position m
