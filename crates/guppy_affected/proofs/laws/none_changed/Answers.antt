use Rattle.guppy_affected.proofs.Members.{without_changed}
use Rattle.guppy_affected.proofs.laws.none_changed.Goals as goal

pub returns : goal.returns
returns c = without_changed
