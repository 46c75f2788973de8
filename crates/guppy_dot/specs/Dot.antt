-- The graph of packages as it is drawn for Graphviz.
use Rattle.std.specs.Prelude.{◌≡◌, ◌↔◌, ◌<◌, ℕ, Bool, ◌&&◌, Contains, IsTrue, List, [], ◌∷◌, length, map, slice_get, IsSomeAnd, if◌then◌else◌}
use Rattle.std.specs.List.{AllZip, filter}
use Rattle.guppy_search.specs.declared.ix.direction.DependencyDirection.TheVariants.{Forward}
use Rattle.guppy_search.specs.declared.graph_core.link.Link.{Link}
use Rattle.guppy_data.specs.declared.records.LinkRecord.{LinkRecord}
use Rattle.guppy_graph.specs.Cycles.{AreCyclic}
use Rattle.guppy_graph.specs.DevOnly.{is_absent, is_dev_only}
use Rattle.guppy_graph.specs.Graph.{GraphData}
use Rattle.guppy_graph.specs.Ids.{HasId}
use Rattle.guppy_core.specs.Listing.{Stands, IsOnce}
use Rattle.guppy_graph.specs.Members.{IsMember}
use Rattle.guppy_search.specs.Reach.{LinkStep, ReachedFrom}
use Rattle.guppy.specs.Views.{PackageData, LinkData, package_in, link_in}
use Rattle.guppy_dot.specs.declared.drawing.LinkStyle.{LinkStyle}
use Rattle.guppy_dot.specs.declared.drawing.LinkStyle.TheVariants.{Solid, Dotted, Dashed}
use Rattle.guppy_dot.specs.declared.drawing.Node.{Node as GivenNode}
use Rattle.guppy_dot.specs.declared.drawing.Edge.{Edge as GivenEdge}
use Rattle.guppy_dot.specs.declared.drawing.Drawing.{Drawing as GivenDrawing}

-- a package: its ID, whether it is a member of the workspace, and whether it is on a cycle
pub record Node : Type 0 where
  pub id : List ℕ
  pub is_member : Bool
  pub is_cyclic : Bool

-- a link: the IDs of its ends, how it is drawn, and whether both ends are on one cycle
pub record Edge : Type 0 where
  pub from : List ℕ
  pub to : List ℕ
  pub style : LinkStyle
  pub is_cyclic : Bool

pub record Drawing : Type 0 where
  pub nodes : List Node
  pub edges : List Edge

abbrev pub node_shown : GivenNode → Node
node_shown node =
    record { id = node.id.now; is_member = node.is_member; is_cyclic = node.is_cyclic }

abbrev pub edge_shown : GivenEdge → Edge
edge_shown edge = record {
  from = edge.from.now;
  to = edge.to.now;
  style = edge.style;
  is_cyclic = edge.is_cyclic;
}

abbrev pub drawing_shown : GivenDrawing → Drawing
drawing_shown drawing = record {
  nodes = map node_shown drawing.nodes.items;
  edges = map edge_shown drawing.edges.items;
}

-- dashed where the link is there for development alone, else dotted where it has no normal section
abbrev pub style_of : LinkRecord → LinkStyle
style_of r = if is_dev_only r then Dashed else (if is_absent r.normal then Dotted else Solid)

-- what is drawn of the package
pub record IsNode (shown : PackageData) (node : Node) : Type 0 where
  pub id_is : HasId shown.graph.packages node.id shown.position
  pub member : IsTrue node.is_member ↔ IsMember shown.graph.packages shown.position
  pub cyclic : IsTrue node.is_cyclic ↔ AreCyclic shown.graph node.id node.id

-- what is drawn of the link between positions
pub record ShowsLink (g : GraphData) (edge : Edge) (link : Link LinkRecord) : Type 0 where
  pub from_is : HasId g.packages edge.from link.from
  pub to_is : HasId g.packages edge.to link.to
  pub style_is : edge.style ≡ style_of link.edge
  pub cyclic : IsTrue edge.is_cyclic ↔ AreCyclic g edge.from edge.to

-- what is drawn of the link
abbrev pub IsEdge : LinkData → Edge → Type 0
IsEdge link edge =
    IsSomeAnd (slice_get link.graph.links link.number) (ShowsLink link.graph edge)

-- each number of which P holds, once, and no other
pub record AreOnceAll (P : ℕ → Type 0) (list : List ℕ) : Type 0 where
  pub once : IsOnce list
  pub exact : (n : ℕ) → Stands list n ↔ P n

-- P holds of both ends of the link with the number
abbrev pub IsLinkWithin : GraphData → (ℕ → Type 0) → ℕ → Type 0
IsLinkWithin g P n = IsSomeAnd (slice_get g.links n) (λ l. P l.from × P l.to)

-- a node for each package of which P holds, and for no other
pub record AreNodes (g : GraphData) (P : ℕ → Type 0) (nodes : List Node) : Type 0 where
  pub positions : List ℕ
  pub all : AreOnceAll P positions
  pub drawn : AllZip IsNode (map (package_in g) positions) nodes

-- an edge for each link between two such packages, and for no other
pub record AreEdges (g : GraphData) (P : ℕ → Type 0) (edges : List Edge) : Type 0 where
  pub numbers : List ℕ
  pub all : AreOnceAll (IsLinkWithin g P) numbers
  pub drawn : AllZip IsEdge (map (link_in g) numbers) edges

-- the packages of which P holds, and the links between them
pub record IsDrawing (g : GraphData) (P : ℕ → Type 0) (drawing : Drawing) : Type 0 where
  pub nodes : AreNodes g P drawing.nodes
  pub edges : AreEdges g P drawing.edges

-- the package at the position is one of those with these IDs
abbrev pub IsNamed : GraphData → List (List ℕ) → ℕ → Type 0
IsNamed g ids p = (id : List ℕ) × Contains ids id × HasId g.packages id p

-- the package at the position is drawn: each where no ID is given, else one of those named, or one to which
-- links lead from these
abbrev pub IsDrawn : GraphData → List (List ℕ) → ℕ → Type 0
IsDrawn g [] p = p < length g.packages
IsDrawn g (id ∷ ids) p = ReachedFrom (LinkStep Forward g.links) (IsNamed g (id ∷ ids)) p

-- the packages whose IDs pass the test, and the links between these
abbrev pub among : (List ℕ → Bool) → Drawing → Drawing
among test drawing = record {
  nodes = filter (λ node. test node.id) drawing.nodes;
  edges = filter (λ edge. test edge.from && test edge.to) drawing.edges;
}
