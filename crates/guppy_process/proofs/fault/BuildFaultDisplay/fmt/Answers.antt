use Rattle.guppy_process.proofs.fault.BuildFaultDisplay.fmt.Goals as goal

pub returns-in-Unresolved-clause-writes : goal.returns-in-Unresolved-clause-writes
returns-in-Unresolved-clause-writes g c = rw c.in-Unresolved.is c.write-in-Unresolved.ensures.writes
