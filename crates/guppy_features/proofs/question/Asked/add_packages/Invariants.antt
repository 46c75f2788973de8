use Rattle.guppy_features.specs.Adding.{Adds, OfBelow}
use Rattle.guppy_features.specs.Questions.{question_of}
use Rattle.guppy_features.specs.Parts.{FollowsOf}
use Rattle.guppy_features.proofs.question.Asked.add_packages.Given as goal

abbrev pub invariant-loop-position : goal.invariant-loop-position
invariant-loop-position l = Adds (OfBelow l.position (FollowsOf (question_of l.self))) l.initial.rules.items l.rules.items
