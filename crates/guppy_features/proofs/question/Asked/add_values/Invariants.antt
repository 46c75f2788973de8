use Rattle.std.proofs.Common.{take}
use Rattle.guppy_features.specs.Adding.{Adds, Behind, OfSome}
use Rattle.guppy_features.specs.Questions.{question_of}
use Rattle.guppy_features.specs.Values.{Gives}
use Rattle.guppy_features.proofs.question.Asked.add_values.Given as goal

abbrev pub invariant-loop-value : goal.invariant-loop-value
invariant-loop-value l = Adds (OfSome (take l.value-index l.values) (λ value. Behind l.first (Gives (question_of l.self) l.position l.side value))) l.initial.rules.items l.rules.items
