use Rattle.guppy_changes.proofs.Unchanged.{nothing_changed}
use Rattle.guppy_changes.proofs.laws.same_state.Goals as goal

pub returns : goal.returns
returns c = nothing_changed
