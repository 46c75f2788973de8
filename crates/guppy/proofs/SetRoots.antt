-- The roots of a set of packages.
use Rattle.std.proofs.Common.{◌≡◌, ◌∙◌, sym, ap, ℕ, ◌<◌, Bool, List, length, map, All, get_or}
use Rattle.std.specs.Prelude.{option_map}
use Rattle.std.proofs.lemmas.Simd.{map-map}
use Rattle.std.proofs.lemmas.Option.{slice_get-map, slice_get-get_or}
use Rattle.guppy_search.specs.declared.ix.index_type.PackageIx.{PackageIx}
use Rattle.guppy_search.proofs.Members.{IsIn-below}
use Rattle.guppy_core.specs.Roots.{AreRoots}
use Rattle.guppy_graph.specs.Ids.{ix_position}
use Rattle.guppy_graph.specs.Graph.{GraphData}
use Rattle.guppy.specs.Views.{package_in}

-- roots are positions of the set's graph
pub roots_within : (Step Same : ℕ → ℕ → Type 0) (set : List Bool) (roots : List PackageIx) → AreRoots Step Same set (map ix_position roots) → All (λ ix. ix_position ix < length set) roots
roots_within Step Same set roots are k d within =
    let at = slice_get-map ix_position roots k ∙ ap (option_map ix_position) (slice_get-get_or roots k d within) in
    IsIn-below set (ix_position (get_or roots k d)) ((are.members (ix_position (get_or roots k d))).0 (k, at)).0

-- the packages at the positions that indexes stand for
pub packages_at_ixs : (g : GraphData) (ixs : List PackageIx) → map (λ ix. package_in g (ix_position ix)) ixs ≡ map (package_in g) (map ix_position ixs)
packages_at_ixs g ixs = sym (map-map (package_in g) ix_position ixs)
