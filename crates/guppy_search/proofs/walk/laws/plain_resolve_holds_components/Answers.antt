use Rattle.guppy_search.proofs.HeldComponents.{plain_resolve_holds}
use Rattle.guppy_search.proofs.walk.laws.plain_resolve_holds_components.Goals as goal

pub returns : goal.returns
returns g c = plain_resolve_holds
