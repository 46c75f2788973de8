use Rattle.std.proofs.Common.{map, take}
use Rattle.guppy_features.specs.Adding.{Adds, Behind, OfSome}
use Rattle.guppy_features.specs.Dependencies.{seen_dependency}
use Rattle.guppy_features.specs.Questions.{question_of}
use Rattle.guppy_features.specs.Values.{GivesThrough}
use Rattle.guppy_features.proofs.question.Asked.add_through_all.Given as goal

abbrev pub invariant-loop-dependency : goal.invariant-loop-dependency
invariant-loop-dependency l = Adds (OfSome (map seen_dependency (take l.dependency-index l.dependencies)) (λ d. Behind l.first (GivesThrough (question_of l.self) l.side l.name l.feature l.weak d))) l.initial.rules.items l.rules.items
