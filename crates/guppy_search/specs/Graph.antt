-- A graph as a value.
use Rattle.std.specs.Prelude.{◌≡◌, ℕ, ◌<◌, ◌^◌, List, length, Some, slice_get, All}
use Rattle.guppy_search.specs.declared.graph_core.link.Link.{Link}
use Rattle.guppy_search.specs.Links.{EndsBelow, SamePair}

-- the nodes by position, and the links by number
pub record GraphValue (N E : Type 0) : Type 0 where
  pub nodes : List N
  pub links : List (Link E)

-- the ends of each link are nodes, and no ordered pair has two links
pub record IsGraph {N E : Type 0} (g : GraphValue N E) : Type 0 where
  pub few_nodes : length g.nodes < 2 ^ 32
  pub few_links : length g.links < 2 ^ 32
  pub ends : All (EndsBelow (length g.nodes)) g.links
  pub single : (i j : ℕ) (a b : Link E) → slice_get g.links i ≡ Some a
      → slice_get g.links j ≡ Some b → SamePair a b → i ≡ j

-- n is the number of a link that leads from one to the other
abbrev pub LinkIs : {E : Type 0} → List (Link E) → ℕ → ℕ → ℕ → Type 0
LinkIs {E} links from to n =
    (l : Link E) × (slice_get links n ≡ Some l) × (l.from ≡ from) × (l.to ≡ to)

-- no link leads from one to the other
abbrev pub NoLink : {E : Type 0} → List (Link E) → ℕ → ℕ → Type 0
NoLink links from to = (n : ℕ) → ¬ LinkIs links from to n
