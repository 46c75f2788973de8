use Rattle.std.proofs.Common.{refl, inr, rules}
use Rattle.guppy_graph.specs.FirmCycles.{IsFirmCycle}
use Rattle.guppy_graph.specs.Verified.{IsVerified}
use Rattle.guppy_graph.proofs.graph.RecordGraph.verify.Goals as goal

pub returns-in-Some-2-clause-fault : goal.returns-in-Some-2-clause-fault
returns-in-Some-2-clause-fault c =
    let verified : IsVerified c.args.self.now = c.in_default.ensures.verified.0 (search rules) in
    let cycle : IsFirmCycle c.args.self.now c.in-Some-2.ids.items = rw c.in-Some-2.is at c.in_ok-ids.ensures in
    rw c.into-in-Some-2.ensures (inr (verified, (c.in-Some-2.ids, refl, cycle)))
