-- Graphs as slices.
use Rattle.std.specs.List.{HoldsAt}
use Rattle.std.specs.Prelude.{◌≡◌, ℕ, ◌<◌, ◌≤◌, Bool, true, false, List, length, map, replicate, take, All}
use Rattle.guppy_search.specs.declared.graph_core.graph.GraphFault.{GraphFault}
use Rattle.guppy_search.specs.declared.graph_core.graph.GraphFault.TheVariants.{OutOfMemory}
use Rattle.guppy_search.specs.declared.graph_core.link.Link.{Link}
use Rattle.guppy_search.specs.Fault.{IsFault}
use Rattle.guppy_search.specs.Graph.{GraphValue, IsGraph}
use Rattle.guppy_search.specs.Links.{links_between, is_unknown, EndsBelow}
use Rattle.guppy_flat.specs.declared.flat.Ends.{Ends}

-- the link with these ends
abbrev pub link_of : Ends → Link (Unit {0})
link_of l = record { from = l.from; to = l.to; edge = tt }

-- both ends are positions below the count
abbrev pub AreKnown : ℕ → Ends → Type 0
AreKnown count e = EndsBelow count (link_of e)

-- the link k is the first of which one isn't
pub record IsFirstAstray (count : ℕ) (links : List Ends) (k : ℕ) : Type 0 where
  pub is_link : k < length links
  pub astray : HoldsAt (λ e. is_unknown count (link_of e) ≡ true) links k
  pub before : All (AreKnown count) (take k links)

-- the links with these ends, each with its flag
abbrev pub flagged : List Ends → List Bool → List (Link Bool)
flagged links flags = links_between (map link_of links) flags

-- the link with these ends, not flagged
abbrev pub unflagged : Ends → Link Bool
unflagged l = record { from = l.from; to = l.to; edge = false }

-- the links with these ends, none of them flagged
abbrev pub plain : List Ends → List (Link Bool)
plain links = flagged links (replicate (length links) false)

-- so many positions and these links make a graph
abbrev pub MakeGraph : ℕ → List (Link Bool) → Type 0
MakeGraph count links = (graph : GraphValue (Unit {0}) Bool) × (length graph.nodes ≡ count)
    × (graph.links ≡ links) × IsGraph graph

-- there are no more positions and links than a graph may have, and each end of a link is a position
pub record AreWithin (count : ℕ) (links : List (Link Bool)) : Type 0 where
  pub few_positions : count ≤ 4294967295
  pub few_links : length links ≤ 4294967295
  pub known_ends : All (EndsBelow count) links

-- so many positions and these links have this fault, and none that comes before it; that there is no memory is said only
-- where no other fault is left but a repeated link, for which memory is needed
pub record IsFlatFault (count : ℕ) (links : List (Link Bool)) (fault : GraphFault) : Type 0 where
  pub is_fault : IsFault count links fault
  pub within : fault ≡ OutOfMemory → AreWithin count links
