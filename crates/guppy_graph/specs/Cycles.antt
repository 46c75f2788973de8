-- Cycles of links.
use Rattle.std.specs.Prelude.{◌==◌, ℕ, Bool, ◌&&◌, ◌||◌, ltb, List, length}
use Rattle.std.specs.List.{Contains, filter, list_any}
use Rattle.guppy_search.specs.declared.graph_core.link.Link.{Link}
use Rattle.guppy_search.specs.declared.ix.direction.DependencyDirection.TheVariants.{Forward}
use Rattle.guppy_search.specs.Reach.{LinkStep, Walk}
use Rattle.guppy_graph.specs.Ids.{HasId}
use Rattle.guppy_graph.specs.Graph.{GraphData}

-- at least one step leads from x to y
abbrev pub LeadsTo : (ℕ → ℕ → Type 0) → ℕ → ℕ → Type 0
LeadsTo R x y = (z : ℕ) × Walk R x z × R z y

-- at least one step leads from x to y, and at least one back
abbrev pub HaveCycle : (ℕ → ℕ → Type 0) → ℕ → ℕ → Type 0
HaveCycle R x y = LeadsTo R x y × LeadsTo R y x

-- links lead from the package of the first ID to that of the second and back
abbrev pub AreCyclic : GraphData → List ℕ → List ℕ → Type 0
AreCyclic g a b = (p q : ℕ) × HasId g.packages a p × HasId g.packages b q
    × HaveCycle (LinkStep Forward g.links) p q

-- a link leads from the position to itself
abbrev pub has_self_link : {E : Type 0} → List (Link E) → ℕ → Bool
has_self_link links p = list_any (λ l. (l.from == p) && (l.to == p)) links

-- the component has two or more members, or one with a link to itself
abbrev pub is_cyclic_component : {E : Type 0} → List (Link E) → List ℕ → Bool
is_cyclic_component links component =
    ltb 1 (length component) || list_any (has_self_link links) component

-- the cyclic components, in the order of the graph
abbrev pub cyclic_components : GraphData → List (List ℕ)
cyclic_components g = filter (is_cyclic_component g.links) g.components

-- one of the cycles has both IDs
abbrev pub AreOnOne : List (List (List ℕ)) → List ℕ → List ℕ → Type 0
AreOnOne cycles a b =
    (cycle : List (List ℕ)) × Contains cycles cycle × Contains cycle a × Contains cycle b
