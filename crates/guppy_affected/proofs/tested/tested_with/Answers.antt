use Rattle.guppy_affected.specs.Tested.{AreTestedWith}
use Rattle.guppy_affected.proofs.Iterators.{IfOk-along}
use Rattle.guppy_affected.proofs.Tests.{built_and_dependents}
use Rattle.guppy_affected.proofs.tested.tested_with.Goals as goal

pub returns-clause-tested : goal.returns-clause-tested
returns-clause-tested c =
    IfOk-along c.with_dependents.result _ (AreTestedWith c.args.set.now)
    (λ tested both. built_and_dependents c.args.set.now c.in_ok-built.built tested c.in_ok-built.ensures.graph c.in_ok-built.ensures.built both)
    c.with_dependents.ensures.both
