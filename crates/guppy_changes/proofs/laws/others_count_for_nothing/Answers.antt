use Rattle.guppy_changes.proofs.Unchanged.{others_aside}
use Rattle.guppy_changes.proofs.laws.others_count_for_nothing.Goals as goal

pub returns : goal.returns
returns c = others_aside
