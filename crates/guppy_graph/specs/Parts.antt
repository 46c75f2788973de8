-- What the parts of a package graph owe to its records.
use Rattle.std.specs.Prelude.{◌≡◌, List}
use Rattle.guppy_search.specs.Graph.{GraphValue, IsGraph}
use Rattle.guppy_data.specs.declared.records.PackageRecord.{PackageRecord}
use Rattle.guppy_data.specs.declared.records.LinkRecord.{LinkRecord}
use Rattle.guppy_data.specs.declared.records.WorkspaceRecord.{WorkspaceRecord}
use Rattle.guppy_graph.specs.declared.build.Indexes.{Indexes}
use Rattle.guppy_graph.specs.Indexes.{AreIndexes}
use Rattle.guppy_graph.specs.Links.{AreLinksOf}
use Rattle.guppy_graph.specs.Accepted.{IsAccepted}

-- the graph of accepted records, and its indexes
pub record AreParts (packages : List PackageRecord) (links : List LinkRecord)
    (workspace : WorkspaceRecord) (g : GraphValue PackageRecord LinkRecord)
    (i : Indexes) : Type 0 where
  pub nodes_are : g.nodes ≡ packages
  pub links_are : AreLinksOf packages links g.links
  pub graph : IsGraph g
  pub indexes : AreIndexes packages i
  pub accepted : IsAccepted packages links workspace
