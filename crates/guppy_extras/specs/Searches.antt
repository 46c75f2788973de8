-- A search of packages, seen as one of nodes.
use Rattle.std.specs.Prelude.{◌≡◌, ℕ, Bool, List, length, map, All, Some, IfSome, slice_get}
use Rattle.std.specs.Option.{option_map}
use Rattle.std.specs.Borrow.{Bor}
use Rattle.guppy_search.specs.declared.graph_core.link.Link.{Link}
use Rattle.guppy_data.specs.declared.records.LinkRecord.{LinkRecord}
use Rattle.guppy_graph.specs.Graph.{GraphData}
use Rattle.guppy.specs.Views.{graph_of, graph_packages, package_position, link_graph, link_number}
use Rattle.guppy.specs.declared.metadata.PackageMetadata.{PackageMetadata}
use Rattle.guppy_extras.specs.declared.why.search.Found.{Found}
use Rattle.guppy_extras.specs.declared.why.search.Search.{Search}
use Rattle.guppy_extras.specs.Nodes.{Node, Searched, Following, AreElsewhere}

-- a package that was found, as a node
abbrev pub node_of : Found → Node
node_of f = record {
  position = package_position f.metadata;
  distance = f.distance;
  last = option_map (λ last. (link_number last.0, last.1)) f.last;
}

-- those that were found
abbrev pub nodes_of : Search → List Node
nodes_of s = map node_of s.found.items

-- the links of the graph that a package is of
abbrev pub links_beside : PackageMetadata → List (Link LinkRecord)
links_beside m = (graph_of m).now.links

-- package and link are of the graph
abbrev pub IsOfGraph : Bor GraphData → Found → Type 0
IsOfGraph g f = (graph_of f.metadata ≡ g) × IfSome f.last (λ last. link_graph last.0 ≡ g)

-- what was found, and seen, where the links of the packages before the place `done` were followed
pub record UnderWay (start : PackageMetadata) (found : List Found) (seen : List Bool)
    (done : ℕ) : Type 0 where
  pub of_graph : All (IsOfGraph (graph_of start)) found
  pub count : length seen ≡ length (graph_packages start)
  pub searched : Searched (links_beside start) (package_position start) (map node_of found) seen done

-- and where those of the package there were, but for the links with the numbers that are left
pub record PartlyFollowed (start : PackageMetadata) (found : List Found) (seen : List Bool)
    (place : ℕ) (left : List ℕ) : Type 0 where
  pub under_way : UnderWay start found seen place
  pub node : Node
  pub at : slice_get (map node_of found) place ≡ Some node
  pub following : Following (links_beside start) (map node_of found) node left

-- the search has followed the links of the packages before the place
abbrev pub IsUnderWay : Search → ℕ → Type 0
IsUnderWay s = UnderWay s.start s.found.items s.seen

-- the search has followed, of the package at the place, all links but those that are left
abbrev pub IsFollowing : Search → ℕ → List ℕ → Type 0
IsFollowing s = PartlyFollowed s.start s.found.items s.seen

-- the first package at the position p is found at the place, before any link of it was followed
pub record IsPlaceOf (s : Search) (p place : ℕ) : Type 0 where
  pub under_way : IsUnderWay s place
  pub node : Node
  pub at : slice_get (nodes_of s) place ≡ Some node
  pub is : node.position ≡ p
  pub elsewhere : AreElsewhere (nodes_of s) place p
