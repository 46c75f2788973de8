use Rattle.std.proofs.Common.{◌≡◌, map, take, string_bytes}
use Rattle.json.specs.Json.{string}
use Rattle.json.specs.Value.{value_view}
use Rattle.guppy_metadata.proofs.object.copied_texts_of.Given as goal

abbrev pub invariant-loop-index : goal.invariant-loop-index
invariant-loop-index l = map value_view (take l.index l.item-items) ≡ map string (map string_bytes l.copies.items)
