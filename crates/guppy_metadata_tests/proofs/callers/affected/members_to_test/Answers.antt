use Rattle.std.proofs.lemmas.Iterator.Consumers.{YieldsList-end}
use Rattle.std.proofs.lemmas.Iterator.Splits.{YieldsList-from_lines}
use Rattle.guppy_metadata_tests.proofs.callers.affected.members_to_test.Goals as goal

pub returns-clause-answer : goal.returns-clause-answer
returns-clause-answer c =
    let all = YieldsList-end (YieldsList-from_lines c.args.diff.now cc) c.loop-line.yielded _ c.loop-line.yielded_by _ _ c.in-None.is c.next.ensures.steps in
    rw (c.as_slice.ensures.value, c.loop-line.invariant, all.0) at c.affected.ensures.answer
