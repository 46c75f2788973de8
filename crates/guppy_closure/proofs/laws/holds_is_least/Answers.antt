use Rattle.std.proofs.Common.{◌≡◌, true}
use Rattle.guppy_closure.proofs.MetBodies.{Holds-least}
use Rattle.guppy_closure.proofs.laws.holds_is_least.Goals as goal

pub returns : goal.returns
returns g c = λ clauses S closed f h. Holds-least clauses (λ g. S g ≡ true) closed f h
