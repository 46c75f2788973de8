use Rattle.std.proofs.Common.{◌≡◌, false, take}
use Rattle.std.specs.List.{list_any}
use Rattle.guppy_features.proofs.ChosenLists.{has_name_at}
use Rattle.guppy_features.proofs.chosen.has_link.Given as goal

abbrev pub invariant-loop-number : goal.invariant-loop-number
invariant-loop-number l = list_any (has_name_at l.graph.links l.name) (take l.number-index l.number-items) ≡ false
