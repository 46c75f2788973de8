use Rattle.guppy_affected.proofs.Members.{with_more}
use Rattle.guppy_affected.proofs.laws.changed_add.Goals as goal

pub returns : goal.returns
returns c = with_more
