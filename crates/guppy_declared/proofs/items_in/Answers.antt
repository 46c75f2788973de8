use Rattle.std.proofs.Common.{map}
use Rattle.json.specs.Value.{value_view}
use Rattle.guppy_declared.proofs.Growing.{items_found}
use Rattle.guppy_declared.proofs.items_in.Goals as goal

pub returns-in-Some : goal.returns-in-Some
returns-in-Some c = items_found c.list_of.result (λ v. map value_view v.now.items) (value_view c.in-Some.found.now) c.list_of.ensures _ c.in-Some.ensures
