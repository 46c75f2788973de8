use Rattle.std.proofs.Common.{take}
use Rattle.guppy_features.specs.Adding.{Adds, OfSome}
use Rattle.guppy_features.specs.Questions.{question_of}
use Rattle.guppy_features.specs.Parts.{HasRoots}
use Rattle.guppy_features.proofs.question.Asked.add_all_roots.Given as goal

abbrev pub invariant-loop-chosen : goal.invariant-loop-chosen
invariant-loop-chosen l = Adds (OfSome (take l.chosen-index l.self.options.now.initials.items) (HasRoots (question_of l.self))) l.initial.rules.items l.rules.items
