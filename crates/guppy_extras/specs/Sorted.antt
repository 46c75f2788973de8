-- Views of packages in the order of their names.
use Rattle.std.specs.Prelude.{◌≡◌, List, Option, map, slice_get, IsSomeAnd}
use Rattle.std.specs.Borrow.{Bor}
use Rattle.std.specs.List.Sorted.{IsPermutation, IsSorted}
use Rattle.std.specs.Option.{option_cmp}
use Rattle.std.specs.String.{string_bytes}
use Rattle.guppy_data.specs.declared.records.PackageRecord.{PackageRecord}
use Rattle.guppy_graph.specs.Graph.{GraphData}
use Rattle.guppy.specs.Iterators.{packages_of}
use Rattle.guppy.specs.Views.{graph_packages, package_position, package_seen}
use Rattle.guppy.specs.declared.metadata.PackageMetadata.{PackageMetadata}
use Rattle.guppy_extras.specs.Duplicates.{by_name}

-- the record of a package
abbrev pub record_of : PackageMetadata → Option PackageRecord
record_of m = slice_get (graph_packages m) (package_position m)

-- both are records, of one name
abbrev pub HaveOneName : Option PackageRecord → Option PackageRecord → Type 0
HaveOneName a b = IsSomeAnd a (λ r. IsSomeAnd b (λ s. string_bytes r.name ≡ string_bytes s.name))

-- the packages of the graph, each once, ascending in their order
pub record AreSorted (g : Bor GraphData) (packages : List PackageMetadata) : Type 0 where
  pub all : IsPermutation (packages_of g) (map package_seen packages)
  pub ascends : IsSorted (λ a b. option_cmp by_name (record_of a) (record_of b)) packages
