use Rattle.std.proofs.Common.{All, take, slice_get}
use Rattle.std.specs.Prelude.{IsSomeAnd}
use Rattle.guppy_graph.specs.Verified.{HasFittingKind}
use Rattle.guppy_graph.proofs.verify.first_misfit.Given as goal

abbrev pub invariant-loop-place : goal.invariant-loop-place
invariant-loop-place l = All (λ p. IsSomeAnd (slice_get l.targets p) HasFittingKind) (take l.place l.places)
