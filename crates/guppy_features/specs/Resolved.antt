-- Which optional dependencies of packages are resolved.
use Rattle.std.specs.Prelude.{ℕ, Bool, ◌&&◌, List}
use Rattle.std.specs.List.{list_any}
use Rattle.std.specs.Str.{bytes_eq}
use Rattle.guppy_data.specs.Platform.{recorded_status}
use Rattle.guppy_graph.specs.Graph.{GraphData}
use Rattle.guppy_features.specs.Dependencies.{DependencyData, dependencies}
use Rattle.guppy_features.specs.Questions.{is_present}

-- the dependency is optional, is called x, and is there on some platform
abbrev pub is_optional_called : List ℕ → DependencyData → Bool
is_optional_called x d = d.is_optional && bytes_eq d.name x && is_present (recorded_status d.part.build_if)

-- the package has such a dependency: a link is that of the optional dependency that it calls x
abbrev pub is_resolved : GraphData → ℕ → List ℕ → Bool
is_resolved g p x = list_any (is_optional_called x) (dependencies g p)
