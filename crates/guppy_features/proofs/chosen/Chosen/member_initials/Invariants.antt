use Rattle.std.proofs.Common.{◌≡◌, ◌<◌, All, length, map, not, take}
use Rattle.std.specs.Prelude.{filter}
use Rattle.guppy_features.specs.Chosen.{chosen_of, initial, is_at_root, seen_initial, seen_value}
use Rattle.guppy_features.proofs.chosen.Chosen.member_initials.Given as goal

abbrev pub invariant-loop-position : goal.invariant-loop-position
invariant-loop-position l = record {
  made : map seen_initial l.initials.items ≡ map (initial (chosen_of l.self) l.standard (map seen_value l.features)) (filter (λ p. not (is_at_root (chosen_of l.self) p)) (take l.position-index l.self.members.now));
  within : All (λ i. i.position < length l.self.graph.now.packages) l.initials.items;
}
