use Rattle.guppy_affected.proofs.Targets.{affected_anyway}
use Rattle.guppy_affected.proofs.laws.given_add.Goals as goal

pub returns : goal.returns
returns c = affected_anyway
