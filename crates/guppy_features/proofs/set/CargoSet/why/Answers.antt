use Rattle.std.proofs.Common.{◌≡◌}
use Rattle.guppy_closure.proofs.Relations.{holds_by}
use Rattle.guppy_features.specs.Questions.{question_of}
use Rattle.guppy_features.specs.Follows.{FollowsFor}
use Rattle.guppy_features.proofs.Reasons.{are_reasons, all_needed, numbers_within}
use Rattle.guppy_features.proofs.set.CargoSet.why.Goals as goal

pub reasons_of-requires : goal.reasons_of-requires
reasons_of-requires c =
    let order = rw c.in-Some.is at c.in_ok-numbers.ensures.order in
    rw (c.clauses.ensures, c.as_slice.ensures.value) (numbers_within c.self.inside.known c.in-Some.numbers.items order)

pub returns-in_default-clause-holds : goal.returns-in_default-clause-holds
returns-in_default-clause-holds c =
    let asked : c.args.self.now ≡ question_of c.self.inside.asked = cc in
    let same = holds_by (FollowsFor (question_of c.self.inside.asked)) c.self.inside.known c.self.invariant c.args.fact in
    let holds = rw c.in_default.is at c.in_ok-numbers.ensures.holds in
    rw asked (λ is. same.1 (holds.0 is), λ h. holds.1 (same.0 h))

pub returns-clause-holds : goal.returns-clause-holds
returns-clause-holds c =
    let asked : c.args.self.now ≡ question_of c.self.inside.asked = cc in
    let same = holds_by (FollowsFor (question_of c.self.inside.asked)) c.self.inside.known c.self.invariant c.args.fact in
    let holds = rw c.in-Some.is at c.in_ok-numbers.ensures.holds in
    rw asked (λ is. same.1 (holds.0 is), λ h. holds.1 (same.0 h))

pub returns-clause-order : goal.returns-clause-order
returns-clause-order c =
    let asked : c.args.self.now ≡ question_of c.self.inside.asked = cc in
    let order = rw c.in-Some.is at c.in_ok-numbers.ensures.order in
    let steps = rw (c.clauses.ensures, c.as_slice.ensures.value) at c.in_ok-steps.ensures in
    rw (asked, steps) (are_reasons c.self.inside.known (FollowsFor (question_of c.self.inside.asked)) c.self.invariant c.in-Some.numbers.items order)

pub returns-clause-needed : goal.returns-clause-needed
returns-clause-needed c =
    let needed = rw c.in-Some.is at c.in_ok-numbers.ensures.needed in
    let steps = rw (c.clauses.ensures, c.as_slice.ensures.value) at c.in_ok-steps.ensures in
    rw steps (all_needed c.self.inside.known c.in-Some.numbers.items c.args.fact needed)
