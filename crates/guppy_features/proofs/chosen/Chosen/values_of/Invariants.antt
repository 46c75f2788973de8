use Rattle.std.proofs.Common.{◌≡◌, map, take}
use Rattle.std.specs.List.{filter_map}
use Rattle.guppy_features.specs.Chosen.{chosen_of, seen_value, taken_of}
use Rattle.guppy_features.proofs.chosen.Chosen.values_of.Given as goal

abbrev pub invariant-loop-feature : goal.invariant-loop-feature
invariant-loop-feature l = map seen_value l.values.items ≡ filter_map (taken_of (chosen_of l.self) l.position) (map seen_value (take l.feature-index l.features))
