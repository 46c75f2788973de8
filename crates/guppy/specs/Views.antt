-- What a view of a package, a link, a workspace or the cycles shows; packages and links as values.
use Rattle.std.specs.Prelude.{ℕ, List, slice_get, IsSomeAnd}
use Rattle.std.specs.Borrow.{Bor}
use Rattle.guppy_search.specs.declared.graph_core.link.Link.{Link}
use Rattle.guppy_data.specs.declared.records.PackageRecord.{PackageRecord}
use Rattle.guppy_data.specs.declared.records.LinkRecord.{LinkRecord}
use Rattle.guppy_data.specs.declared.records.WorkspaceRecord.{WorkspaceRecord}
use Rattle.guppy.specs.declared.metadata.PackageMetadata.{PackageMetadata}
use Rattle.guppy.specs.declared.link.PackageLink.{PackageLink}
use Rattle.guppy.specs.declared.workspace.Workspace.{Workspace}
use Rattle.guppy.specs.declared.cycles.Cycles.{Cycles}
use Rattle.guppy_graph.specs.Graph.{GraphData}

-- a package of a graph, by its position
pub record PackageData : Type 0 where
  pub graph : GraphData
  pub position : ℕ

-- a link of a graph, by its number
pub record LinkData : Type 0 where
  pub graph : GraphData
  pub number : ℕ

-- the package of the graph at the position
abbrev pub package_in : GraphData → ℕ → PackageData
package_in g p = record { graph = g; position = p }

-- the link of the graph with the number
abbrev pub link_in : GraphData → ℕ → LinkData
link_in g n = record { graph = g; number = n }

-- the graph that a package is of
abbrev pub graph_of : PackageMetadata → Bor GraphData
graph_of m = m.graph

-- the packages of that graph
abbrev pub graph_packages : PackageMetadata → List PackageRecord
graph_packages m = (graph_of m).now.packages

-- the place of a package among them
abbrev pub package_position : PackageMetadata → ℕ
package_position m = m.position

-- the package that a view shows
abbrev pub package_data : PackageMetadata → PackageData
package_data m = package_in (graph_of m).now (package_position m)

-- a package is seen as its graph and its position
abbrev pub package_seen : PackageMetadata → Bor GraphData × ℕ
package_seen m = (graph_of m, package_position m)

-- P holds of the record of the package
abbrev pub OfPackage : PackageMetadata → (PackageRecord → Type 0) → Type 0
OfPackage m P = IsSomeAnd (slice_get (graph_packages m) (package_position m)) P

-- the graph that a link is of
abbrev pub link_graph : PackageLink → Bor GraphData
link_graph l = l.graph

-- the place of a link among the graph's links
abbrev pub link_number : PackageLink → ℕ
link_number l = l.number

-- the link that a view shows
abbrev pub link_data : PackageLink → LinkData
link_data l = link_in (link_graph l).now (link_number l)

-- a link is seen as its graph and its number
abbrev pub link_seen : PackageLink → Bor GraphData × ℕ
link_seen l = (link_graph l, link_number l)

-- P holds of the link, with its record
abbrev pub OfLink : PackageLink → (Link LinkRecord → Type 0) → Type 0
OfLink l P = IsSomeAnd (slice_get (link_graph l).now.links (link_number l)) P

-- the graph that a workspace is of
abbrev pub workspace_graph : Workspace → Bor GraphData
workspace_graph w = w.graph

-- the packages of that graph
abbrev pub workspace_packages : Workspace → List PackageRecord
workspace_packages w = (workspace_graph w).now.packages

-- the record of the workspace
abbrev pub workspace_record : Workspace → WorkspaceRecord
workspace_record w = (workspace_graph w).now.workspace

-- the graph that cycles are of
abbrev pub cycles_graph : Cycles → Bor GraphData
cycles_graph c = c.graph

-- the packages of that graph
abbrev pub cycles_packages : Cycles → List PackageRecord
cycles_packages c = (cycles_graph c).now.packages
