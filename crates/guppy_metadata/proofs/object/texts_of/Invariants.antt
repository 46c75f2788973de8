use Rattle.std.proofs.Common.{◌≡◌, map, take}
use Rattle.json.specs.Json.{string}
use Rattle.json.specs.Value.{value_view}
use Rattle.guppy_metadata.proofs.object.texts_of.Given as goal

abbrev pub invariant-loop-index : goal.invariant-loop-index
invariant-loop-index l = map value_view (take l.index l.item-items) ≡ map string (map (λ text. text.now) l.texts.items)
