use Rattle.std.proofs.Common.{◌≡◌, ◌∷◌, ◌++◌, map, take}
use Rattle.guppy_tests.specs.declared.judge.Event.TheVariants.{HandBack}
use Rattle.guppy_tests.proofs.drawn.note.Given as goal

abbrev pub invariant-loop-link : goal.invariant-loop-link
invariant-loop-link l =
    l.events.items ≡ l.fn.events.items ++ l.fn.question ∷ map HandBack (take l.link-index l.handed)
