-- How a graph is stored.
use Rattle.std.specs.Prelude.{◌≡◌, ℕ, ◌+◌, ◌<◌, ◌≤◌, nat_lt, List, length, map, take, slice_index}
use Rattle.std.specs.List.{slice_range}
use Rattle.guppy_search.specs.declared.ix.direction.DependencyDirection.{DependencyDirection}
use Rattle.guppy_search.specs.declared.ix.direction.DependencyDirection.TheVariants.{Forward, Reverse}
use Rattle.guppy_search.specs.declared.graph_core.link.Link.{Link}
use Rattle.guppy_search.specs.declared.graph_core.lists.LinkLists.{LinkLists}
use Rattle.guppy_search.specs.Links.{near_end, far_end, numbers_where, links_at, links_between}
use Rattle.guppy_search.specs.Graph.{GraphValue, IsGraph}

-- the position that the link n leads to in the direction
abbrev pub far_at : {E : Type 0} → DependencyDirection → List (Link E) → ℕ → ℕ
far_at {E} d links n = slice_index (map (λ (l : Link E). far_end d l) links) n

-- the far ends of the links that leave the position, in the order of their numbers
abbrev pub far_ends_at : {E : Type 0} → DependencyDirection → List (Link E) → ℕ → List ℕ
far_ends_at d links p = map (far_at d links) (links_at d links p)

-- how many links leave positions below p
abbrev pub leaving_below : {E : Type 0} → DependencyDirection → List (Link E) → ℕ → ℕ
leaving_below d links p = length (numbers_where (λ l. nat_lt (near_end d l) p) 0 links)

-- one place after each position stands where its list goes on behind its numbers among the first i
pub record AreBegun {E : Type 0} (d : DependencyDirection) (count : ℕ) (links : List (Link E))
    (i : ℕ) (bounds : List ℕ) : Type 0 where
  pub count_is : length bounds ≡ count + 1
  pub first : slice_index bounds 0 ≡ 0
  pub next : (p : ℕ) → p < count
      → slice_index bounds (p + 1) ≡ leaving_below d links p + length (links_at d (take i links) p)

-- the numbers from the bound of each position to the next one are the list of its links, and beside
-- them stand their far ends
pub record ListsAre {E : Type 0} (d : DependencyDirection) (count : ℕ) (links : List (Link E))
    (bounds numbers far : List ℕ) : Type 0 where
  pub count_is : length bounds ≡ count + 1
  pub climb : (p : ℕ) → p < count → (slice_index bounds p ≤ slice_index bounds (p + 1))
      × (slice_index bounds (p + 1) ≤ length numbers)
  pub list_is : (p : ℕ) → p < count
      → slice_range numbers (slice_index bounds p) (slice_index bounds (p + 1)) ≡ links_at d links p
  pub beside : length far ≡ length numbers
  pub far_is : (p : ℕ) → p < count
      → slice_range far (slice_index bounds p) (slice_index bounds (p + 1)) ≡ far_ends_at d links p

-- each edge has its ends, and the lists are those of the links that these make
pub record IsStored {N E : Type 0} (nodes : List N) (edges : List E)
    (ends : List (Link (Unit {0}))) (forward reverse : LinkLists) : Type 0 where
  pub paired : length ends ≡ length edges
  pub graph : IsGraph (let g : GraphValue N E = record
      { nodes = nodes; links = links_between ends edges } in g)
  pub forward_is : ListsAre Forward (length nodes) (links_between ends edges)
      forward.bounds.items forward.numbers.items forward.far.items
  pub reverse_is : ListsAre Reverse (length nodes) (links_between ends edges)
      reverse.bounds.items reverse.numbers.items reverse.far.items
