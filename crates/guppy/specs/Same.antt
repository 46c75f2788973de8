-- Whether two graphs, two sets or two packages are the same.
use Rattle.std.specs.Prelude.{Bool, ◌==◌, List}
use Rattle.std.specs.Bool.{beq}
use Rattle.std.specs.Ordering.{on, eq_of_both}
use Rattle.std.specs.Cmp.Lexicographic.{pointwise}
use Rattle.std.specs.Str.{bytes_eq}
use Rattle.guppy_data.specs.declared.records.PackageRecord.{PackageRecord}
use Rattle.guppy.specs.declared.metadata.PackageMetadata.{PackageMetadata}
use Rattle.guppy.specs.Views.{graph_packages, package_position}
use Rattle.guppy_graph.specs.Ids.{ids_of}
use Rattle.guppy.specs.Query.{SetData}

-- whether the lists of the packages' IDs are equal, position by position
abbrev pub same_ids : List PackageRecord → List PackageRecord → Bool
same_ids = on ids_of (pointwise bytes_eq)

-- whether the graphs' lists of IDs are equal, and the same positions are in the sets
abbrev pub same_set : SetData → SetData → Bool
same_set = eq_of_both (on (λ s. s.graph.packages) same_ids) (on (λ s. s.included) (pointwise beq))

-- whether the graphs' lists of IDs are equal, and the packages have one position
abbrev pub same_package : PackageMetadata → PackageMetadata → Bool
same_package = eq_of_both (on graph_packages same_ids) (on package_position ◌==◌)
