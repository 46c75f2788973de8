use Rattle.std.proofs.Common.{◌≡◌, ℕ, List, map, take, slice_get}
use Rattle.std.specs.Option.{option_copied}
use Rattle.json.specs.Json.{string}
use Rattle.json.specs.Value.{value_view}
use Rattle.guppy_metadata.proofs.object.first_text_of.Given as goal

abbrev pub invariant-loop-index : goal.invariant-loop-index
invariant-loop-index l = (texts : List (List ℕ)) × (map value_view (take l.index l.item-items) ≡ map string texts) × (slice_get texts 0 ≡ option_copied l.first)
