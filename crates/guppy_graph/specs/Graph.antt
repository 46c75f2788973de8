-- A package graph as a value.
use Rattle.std.specs.Prelude.{◌≡◌, ℕ, ◌*◌, ◌≤◌, List, length, All}
use Rattle.guppy_search.specs.declared.graph_core.link.Link.{Link}
use Rattle.guppy_search.specs.Graph.{GraphValue, IsGraph}
use Rattle.guppy_data.specs.declared.records.PackageRecord.{PackageRecord}
use Rattle.guppy_data.specs.declared.records.LinkRecord.{LinkRecord}
use Rattle.guppy_data.specs.declared.records.WorkspaceRecord.{WorkspaceRecord}
use Rattle.guppy_graph.specs.declared.build.Indexes.{Indexes}
use Rattle.guppy_graph.specs.Accepted.{ArePackagesAccepted}
use Rattle.guppy_graph.specs.Indexes.{AreIndexes}
use Rattle.guppy_graph.specs.Links.{AreEndsNamed, AreLinksOf}
use Rattle.guppy_graph.specs.Ordered.{IsOrdered, AreOrderLooks}

-- the packages by position, the links by number with positions as their ends, the workspace, the
-- positions by the index, and the components in their order
pub record GraphData : Type 0 where
  pub packages : List PackageRecord
  pub links : List (Link LinkRecord)
  pub workspace : WorkspaceRecord
  pub index : List ℕ
  pub components : List (List ℕ)

-- its index and its components are an order of its packages, by its links
abbrev pub IsInOrder : GraphData → Type 0
IsInOrder g = IsOrdered (length g.packages) g.links g.index g.components

-- the packages and the workspace break no rule, the links lie between the packages, and the order
-- is one by the links
pub record IsPackageGraph (g : GraphData) : Type 0 where
  pub graph : IsGraph (let v : GraphValue PackageRecord LinkRecord =
      record { nodes = g.packages; links = g.links } in v)
  pub accepted : ArePackagesAccepted g.packages g.workspace
  pub ends : All (AreEndsNamed g.packages) g.links
  pub ordered : IsInOrder g

-- the graph holds exactly these records
pub record Holds (g : GraphData) (packages : List PackageRecord) (links : List LinkRecord)
    (workspace : WorkspaceRecord) : Type 0 where
  pub packages_are : g.packages ≡ packages
  pub links_are : AreLinksOf packages links g.links
  pub workspace_is : g.workspace ≡ workspace

-- a package graph, its indexes, and how many links were looked at for the order
pub record IsStored (g : GraphData) (i : Indexes) (looks : ℕ) : Type 0 where
  pub graph : IsPackageGraph g
  pub indexes : AreIndexes g.packages i
  pub looked : AreOrderLooks (length g.packages) g.links looks
  pub many_looks : 3 * length g.links ≤ looks
  pub few_looks : looks ≤ 4 * length g.links
