use Rattle.std.proofs.Common.{refl}
use Rattle.guppy_closure.specs.Clauses.{by}
use Rattle.guppy_closure.proofs.laws.holds_is_closed.Goals as goal

pub returns : goal.returns
returns g c = λ clauses n d found body. by n d found refl body
