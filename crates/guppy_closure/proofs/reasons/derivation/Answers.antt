use Rattle.std.proofs.Common.{ℕ, Vec, Global}
use Rattle.guppy_closure.specs.Derived.{IsDerivation, EndsWith, AreNeeded}
use Rattle.guppy_closure.specs.Needs.{AreSteps}
use Rattle.guppy_closure.proofs.NeededSteps.{ok_both, steps_needed, steps_last}
use Rattle.guppy_closure.proofs.reasons.derivation.Goals as goal

pub returns-clause-last : goal.returns-clause-last
returns-clause-last c =
    let cs = c.args.clauses.now in
    let found = c.args.closed.now.found.items in
    let s = c.in_ok-needed.needed in
    ok_both c.steps_of.result
    (λ (steps : Vec ℕ Global). IsDerivation cs steps.items) (λ (steps : Vec ℕ Global). AreSteps cs found s steps.items) (λ (steps : Vec ℕ Global). EndsWith cs steps.items c.args.fact)
    (λ steps order are. steps_last cs c.args.closed.now.facts found c.requires.found c.args.fact s c.in_ok-needed.ensures.needs steps.items order are)
    c.steps_of.ensures.order c.steps_of.ensures.steps

pub returns-clause-needed : goal.returns-clause-needed
returns-clause-needed c =
    let cs = c.args.clauses.now in
    let found = c.args.closed.now.found.items in
    let s = c.in_ok-needed.needed in
    ok_both c.steps_of.result
    (λ (steps : Vec ℕ Global). IsDerivation cs steps.items) (λ (steps : Vec ℕ Global). AreSteps cs found s steps.items) (λ (steps : Vec ℕ Global). AreNeeded cs steps.items c.args.fact)
    (λ steps order are. steps_needed cs c.args.closed.now.facts found c.requires.found c.args.fact s c.in_ok-needed.ensures.needs steps.items order are)
    c.steps_of.ensures.order c.steps_of.ensures.steps
