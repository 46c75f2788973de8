use Rattle.std.proofs.Common.{◌≡◌, ℕ, List, map, take}
use Rattle.indexmap.specs.IndexMap.{get_by_text}
use Rattle.guppy_metadata.specs.Package.{last_position}
use Rattle.guppy_metadata.proofs.package.positions_of.Given as goal

abbrev pub invariant-loop-position : goal.invariant-loop-position
invariant-loop-position l = (id : List ℕ)
    → get_by_text l.positions id ≡ last_position id (map (λ p. p.id.now) (take l.position l.packages))
