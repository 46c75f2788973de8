-- Walks over the links of a graph.
use Rattle.std.specs.Prelude.{◌≡◌, ◌≤◌, ℕ, List, [], ◌∷◌, length, slice_get, IsSomeAnd}
use Rattle.guppy_search.specs.declared.graph_core.link.Link.{Link}
use Rattle.guppy_graph.specs.Graph.{GraphData}
use Rattle.guppy_graph.specs.Ids.{HasId}

-- the links with these numbers are a walk from a to b: the first leaves a, each next one leaves the
-- end of the one before, and the last ends at b
abbrev pub IsWalk : {E : Type 0} → List (Link E) → ℕ → ℕ → List ℕ → Type 0
IsWalk links a b [] = a ≡ b
IsWalk links a b (n ∷ ns) =
    IsSomeAnd (slice_get links n) (λ l. (l.from ≡ a) × IsWalk links l.to b ns)

-- each walk from a to b has at least so many links
abbrev pub NoneShorter : {E : Type 0} → List (Link E) → ℕ → ℕ → ℕ → Type 0
NoneShorter links a b count = (walk : List ℕ) → IsWalk links a b walk → count ≤ length walk

-- no walk leads from a to b
abbrev pub NoWalk : {E : Type 0} → List (Link E) → ℕ → ℕ → Type 0
NoWalk links a b = (walk : List ℕ) → ¬ IsWalk links a b walk

-- P holds of the positions of the packages with the two IDs
abbrev pub Between : GraphData → List ℕ → List ℕ → (ℕ → ℕ → Type 0) → Type 0
Between g a b P = (p q : ℕ) × HasId g.packages a p × HasId g.packages b q × P p q
