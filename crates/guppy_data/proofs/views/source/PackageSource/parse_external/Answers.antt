use Rattle.guppy_data.proofs.views.source.PackageSource.parse_external.Goals as goal

pub returns-in-External-clause-refused : goal.returns-in-External-clause-refused
returns-in-External-clause-refused c = rw c.in-External.is c.new.ensures.refused
