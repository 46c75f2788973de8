-- The roots of a set of packages.
use Rattle.std.specs.Prelude.{◌≡◌, ℕ, List, map}
use Rattle.std.specs.List.{filter_map}
use Rattle.std.specs.Vec.Iter.{into_iter_items}
use Rattle.guppy_search.specs.declared.ix.direction.DependencyDirection.{DependencyDirection}
use Rattle.guppy_search.specs.declared.ix.direction.DependencyDirection.TheVariants.{Forward}
use Rattle.guppy_search.specs.Reach.{LinkStep, Mutual}
use Rattle.guppy_core.specs.Roots.{IsRoot, AreRoots}
use Rattle.guppy.specs.declared.set.roots.RootPackages.{RootPackages}
use Rattle.guppy.specs.declared.set.roots.RootIds.{RootIds}
use Rattle.guppy_graph.specs.Ids.{ix_position}
use Rattle.guppy.specs.Views.{PackageData, package_in}
use Rattle.guppy.specs.Query.{SetData}
use Rattle.guppy.specs.Listed.{id_of}

-- the position is a root of the set: no link inside the set enters its component, in the direction,
-- from outside it; a component is a class of mutual reach over all links of the graph
abbrev pub IsRootOf : DependencyDirection → SetData → ℕ → Type 0
IsRootOf d s =
    IsRoot (LinkStep d s.graph.links) (Mutual (LinkStep Forward s.graph.links)) s.included

-- the positions of the set's roots, ascending
abbrev pub AreRootsOf : DependencyDirection → SetData → List ℕ → Type 0
AreRootsOf d s =
    AreRoots (LinkStep d s.graph.links) (Mutual (LinkStep Forward s.graph.links)) s.included

-- the packages are the set's roots
abbrev pub AreRootPackages : DependencyDirection → SetData → List PackageData → Type 0
AreRootPackages d s packages =
    (roots : List ℕ) × AreRootsOf d s roots × (packages ≡ map (package_in s.graph) roots)

-- the IDs are those of the set's roots
abbrev pub AreRootIds : DependencyDirection → SetData → List (List ℕ) → Type 0
AreRootIds d s ids = (packages : List PackageData) × AreRootPackages d s packages
    × (ids ≡ filter_map id_of packages)

-- the roots that are still to come
abbrev pub roots_left : RootPackages → List PackageData
roots_left r = map (λ ix. package_in r.graph.now (ix_position ix)) (into_iter_items r.rest)

abbrev pub root_ids_left : RootIds → List (List ℕ)
root_ids_left r = filter_map id_of (roots_left r.packages)
