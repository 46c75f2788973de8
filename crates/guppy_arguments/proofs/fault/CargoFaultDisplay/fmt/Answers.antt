use Rattle.guppy_arguments.proofs.fault.CargoFaultDisplay.fmt.Goals as goal

pub returns-in-Unknown-clause-writes : goal.returns-in-Unknown-clause-writes
returns-in-Unknown-clause-writes g c = rw c.in-Unknown.is c.write-in-Unknown.ensures.writes
