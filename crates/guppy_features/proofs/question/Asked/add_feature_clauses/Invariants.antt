use Rattle.guppy_features.specs.Adding.{Adds, OfBelow}
use Rattle.guppy_features.specs.Questions.{question_of}
use Rattle.guppy_features.specs.Parts.{SwitchesAt}
use Rattle.guppy_features.proofs.question.Asked.add_feature_clauses.Given as goal

abbrev pub invariant-loop-place : goal.invariant-loop-place
invariant-loop-place l = Adds (OfBelow l.place (SwitchesAt (question_of l.self) l.position l.side)) l.initial.rules.items l.rules.items
