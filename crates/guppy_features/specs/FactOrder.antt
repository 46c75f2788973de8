-- The order of facts: by package, side, what is said, and place.
use Rattle.std.specs.declared.cmp.Ordering.{Ordering}
use Rattle.guppy_features.specs.declared.fact.Fact.{Fact}
use Rattle.guppy_features.specs.contracts.fact.FactOrd.TheImpl as fact_ord

abbrev pub fact_cmp : Fact → Fact → Ordering
fact_cmp = (fact_ord.ghosts).cmp
