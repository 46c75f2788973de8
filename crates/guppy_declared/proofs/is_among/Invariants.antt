use Rattle.std.proofs.Common.{◌≢◌, All, take}
use Rattle.json.specs.Json.{string}
use Rattle.json.specs.Value.{value_view}
use Rattle.guppy_declared.proofs.is_among.Given as goal

abbrev pub invariant-loop-item : goal.invariant-loop-item
invariant-loop-item l = All (λ v. value_view v ≢ string l.text) (take l.item-index l.items)
