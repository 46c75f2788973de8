use Rattle.std.proofs.Common.{arith}
use Rattle.guppy_flat.proofs.FlatLinks.{length-flagged, within_flagged, unknown_flagged}
use Rattle.guppy_flat.proofs.flat.expect_within.Goals as goal

pub returns-then-links-gt-LIMIT-clause-fault : goal.returns-then-links-gt-LIMIT-clause-fault
returns-then-links-gt-LIMIT-clause-fault c flags same =
    let few = c.if-count-gt-LIMIT.false in
    let many = c.if-links-gt-LIMIT.true in
    let count = length-flagged c.args.links.now flags same in
    record { is_fault = (omega arith, omega arith); within = λ is. absurd (cc) }

pub returns-in-Some-clause-fault : goal.returns-in-Some-clause-fault
returns-in-Some-clause-fault c flags same =
    let few = c.if-count-gt-LIMIT.false in
    let few' = c.if-links-gt-LIMIT.false in
    record { is_fault = unknown_flagged c.args.count c.args.links.now flags same (omega arith) (omega arith) c.in-Some.number c.in-Some.ensures; within = λ is. absurd (cc) }

pub returns-in-None-clause-within : goal.returns-in-None-clause-within
returns-in-None-clause-within c flags same =
    let few = c.if-count-gt-LIMIT.false in
    let few' = c.if-links-gt-LIMIT.false in
    within_flagged c.args.count c.args.links.now flags same (omega arith) (omega arith) c.in-None.ensures
