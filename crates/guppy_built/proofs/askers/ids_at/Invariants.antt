use Rattle.std.proofs.Common.{◌≡◌, map, take}
use Rattle.std.specs.List.{filter_map}
use Rattle.guppy_built.specs.Features.{id_at}
use Rattle.guppy_built.proofs.askers.ids_at.Given as goal

abbrev pub invariant-loop-position : goal.invariant-loop-position
invariant-loop-position l = map (λ id. id.now) l.ids.items ≡ filter_map (id_at l.graph) (map (λ p. p) (take l.position-index l.positions))
