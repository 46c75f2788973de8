-- The lists of a set of packages.
use Rattle.std.specs.Prelude.{◌≢◌, ℕ, List, Option, map}
use Rattle.std.specs.List.{concat, filter, filter_map}
use Rattle.guppy_search.specs.declared.ix.direction.DependencyDirection.{DependencyDirection}
use Rattle.guppy_search.specs.declared.ix.direction.DependencyDirection.TheVariants.{Forward, Reverse}
use Rattle.guppy_search.specs.IxSet.{has, IsIn}
use Rattle.guppy_core.specs.Listing.{Precedes}
use Rattle.guppy_search.specs.Reach.{Walk}
use Rattle.guppy_core.specs.Sccs.{listed}
use Rattle.guppy_data.specs.declared.records.PackageRecord.{PackageRecord}
use Rattle.guppy.specs.Views.{PackageData, package_in}
use Rattle.guppy.specs.declared.set.lists.ListedPackages.{ListedPackages}
use Rattle.guppy.specs.declared.set.lists.ListedPackageIds.{ListedPackageIds}
use Rattle.guppy_graph.specs.Ids.{id_at}
use Rattle.guppy_graph.specs.Ordered.{FirmStep}
use Rattle.guppy.specs.Query.{SetData}

-- the order of the graph, kept to the set: as it is, or from its end
abbrev pub positions_listed : DependencyDirection → SetData → List ℕ
positions_listed d s = listed d (filter (has s.included) (concat s.graph.components))

-- x stands before y, or in a list from the end behind it
abbrev pub PrecedesIn : DependencyDirection → List ℕ → ℕ → ℕ → Type 0
PrecedesIn Forward list x y = Precedes list x y
PrecedesIn Reverse list x y = Precedes list y x

-- each walk over links that aren't dev-only between different packages of the set leads on in the set's
-- list, also through packages that aren't in the set
abbrev pub FirmWalksLeadOn : DependencyDirection → SetData → Type 0
FirmWalksLeadOn d s = (x y : ℕ) → IsIn s.included x → IsIn s.included y
    → Walk (FirmStep s.graph.links) x y → x ≢ y → PrecedesIn d (positions_listed d s) x y

-- the packages of the set as they are listed
abbrev pub packages_listed : DependencyDirection → SetData → List PackageData
packages_listed d s = map (package_in s.graph) (positions_listed d s)

-- the ID of a package
abbrev pub id_of : PackageData → Option (List ℕ)
id_of p = id_at p.graph.packages p.position

-- the IDs of the packages at the positions
abbrev pub ids_at : List PackageRecord → List ℕ → List (List ℕ)
ids_at packages positions = filter_map (id_at packages) positions

abbrev pub listed_left : ListedPackages → List PackageData
listed_left s = map (package_in s.graph.now) s.rest

abbrev pub listed_ids_left : ListedPackageIds → List (List ℕ)
listed_ids_left s = filter_map id_of (listed_left s.packages)
