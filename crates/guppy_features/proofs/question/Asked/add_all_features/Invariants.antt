use Rattle.std.proofs.Common.{Some}
use Rattle.guppy_features.specs.Adding.{Adds, OfBelow}
use Rattle.guppy_features.specs.Facts.{feature}
use Rattle.guppy_features.specs.Values.{Always}
use Rattle.guppy_features.proofs.question.Asked.add_all_features.Given as goal

abbrev pub invariant-loop-place : goal.invariant-loop-place
invariant-loop-place l = Adds (OfBelow l.place (λ n. Always (Some (feature l.position l.side n)))) l.initial.rules.items l.rules.items
