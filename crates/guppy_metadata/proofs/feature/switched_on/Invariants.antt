use Rattle.std.proofs.Common.{◌≡◌, ℕ, List, map, take}
use Rattle.std.specs.List.{AllZip}
use Rattle.json.specs.Json.{string}
use Rattle.json.specs.Value.{value_view}
use Rattle.guppy_data.specs.NamedFeature.{IsFeature}
use Rattle.guppy_metadata.proofs.feature.switched_on.Given as goal

abbrev pub invariant-loop-index : goal.invariant-loop-index
invariant-loop-index l = (texts : List (List ℕ)) × (map value_view (take l.index l.item-items) ≡ map string texts) × AllZip IsFeature texts l.features.items
