use Rattle.std.proofs.Common.{sym, ◌∙◌, arith}
use Rattle.guppy_closure.proofs.Steps.{found_few, closing_end, spent_end, spent_few}
use Rattle.guppy_closure.proofs.Counting.{looks_are}
use Rattle.guppy_closure.proofs.closing.closure.Goals as goal

pub facts-smaller : goal.facts-smaller
facts-smaller c =
    let s = c.facts.invariant in
    let few = found_few c.args.clauses.now c.facts.closed.facts c.facts.closed.found.items c.facts.next c.facts.closed.looks _ s.closing in
    let count = s.count in
    omega (arith, c.facts.closed.found.ok.0)

pub returns-clause-holds : goal.returns-clause-holds
returns-clause-holds c =
    closing_end c.args.clauses.now c.facts.closed.facts c.facts.closed.found.items c.facts.next c.facts.closed.looks
    (omega (arith, c.facts.closed.found.ok.0)) c.facts.invariant.closing

pub returns-clause-looks : goal.returns-clause-looks
returns-clause-looks c =
    spent_end c.args.clauses.now c.facts.closed.facts c.facts.closed.found.items c.facts.next c.facts.closed.looks
    (omega (arith, c.facts.closed.found.ok.0)) c.facts.invariant.closing ∙ sym (looks_are c.facts.closed.facts c.args.clauses.now)

pub returns-clause-few : goal.returns-clause-few
returns-clause-few c = spent_few c.args.clauses.now c.facts.closed.facts c.facts.closed.found.items c.facts.next c.facts.closed.looks _ c.facts.invariant.closing
