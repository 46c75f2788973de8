use Rattle.std.proofs.Common.{map, take, All, IsTrue}
use Rattle.guppy_features.specs.Chosen.{chosen_of, is_accepted, seen_value}
use Rattle.guppy_features.proofs.chosen.Chosen.first_refused.Given as goal

abbrev pub invariant-loop-place : goal.invariant-loop-place
invariant-loop-place l = All (λ v. IsTrue (is_accepted (chosen_of l.self) v)) (map seen_value (take l.place l.features))
