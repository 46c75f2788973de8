use Rattle.std.proofs.Common.{take}
use Rattle.guppy_closure.specs.Derived.{IsDerivation}
use Rattle.guppy_closure.specs.Needs.{AreSteps}
use Rattle.guppy_closure.proofs.reasons.steps_of.Given as goal

abbrev pub invariant-found : goal.invariant-found
invariant-found l = record {
  order : IsDerivation l.clauses l.steps.items;
  steps : AreSteps l.clauses (take l.number-index l.closed.found.items) l.needed l.steps.items;
}
