-- Links of a graph, by their numbers.
use Rattle.std.proofs.Common.{◌≡◌, ◌↔◌, refl, ap, subst, ℕ, List, map, Contains}
use Rattle.std.specs.Prelude.{Option, Some, None, MatchOption, IsSomeAnd, slice_get}
use Rattle.guppy_search.specs.declared.graph_core.link.Link.{Link}
use Rattle.guppy_search.specs.Graph.{NoLink, LinkIs}
use Rattle.guppy_graph.specs.Graph.{GraphData}
use Rattle.guppy.specs.Views.{LinkData, link_in}
use Rattle.guppy_data.proofs.Mapped.{Contains-map, from_map}

-- a link is in the list exactly where its number is
pub seen_link : {P : Type 0} (g : GraphData) (numbers : List ℕ) (n : ℕ) → Contains numbers n ↔ P → Contains (map (link_in g) numbers) (link_in g n) ↔ P
seen_link g numbers n iff = (
  λ h. let m = from_map (link_in g) numbers (link_in g n) h in iff.0 (subst (Contains numbers) (ap (λ (l : LinkData). l.number) m.2) m.1),
  λ p. Contains-map (link_in g) numbers n (iff.1 p),
)

-- a link that is found by the positions of its ends, where P says what these are
module _ {E : Type 0} (links : List (Link E)) (from to : ℕ) (P : Link E → Type 0) (says : (l : Link E) → l.from ≡ from → l.to ≡ to → P l) (told : (l : Link E) → P l → (l.from ≡ from) × (l.to ≡ to)) where
  by_number : (n : ℕ) (found : Option (Link E)) → slice_get links n ≡ found → IsSomeAnd found P → LinkIs links from to n
  by_number n None at h = absurd h
  by_number n (Some l) at h = let ends = told l h in (l, at, ends.0, ends.1)

  pub by_ends : (number : Option ℕ) → MatchOption number (NoLink links from to) (LinkIs links from to) → MatchOption number ((n : ℕ) → ¬ IsSomeAnd (slice_get links n) P) (λ n. IsSomeAnd (slice_get links n) P)
  by_ends None none = λ n h. none n (by_number n (slice_get links n) refl h)
  by_ends (Some n) (l, at, leaves, leads) = rw at (says l leaves leads)
