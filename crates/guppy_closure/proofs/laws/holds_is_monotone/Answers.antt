use Rattle.std.proofs.Common.{refl}
use Rattle.guppy_closure.specs.Clauses.{Holds, by}
use Rattle.guppy_closure.proofs.MetBodies.{Holds-least}
use Rattle.guppy_closure.proofs.laws.holds_is_monotone.Goals as goal

pub returns : goal.returns
returns g c = λ fewer more among f h.
    Holds-least fewer (Holds more) (λ n d found body. let there = among n d found in by there.0 d there.1 refl body) f h
