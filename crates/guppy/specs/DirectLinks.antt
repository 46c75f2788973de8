-- Links that leave one package, and which of them an iterator has still to give.
use Rattle.std.specs.Prelude.{◌≡◌, ℕ, List, Option, MatchOption, map, slice_get, IsSomeAnd}
use Rattle.std.specs.Borrow.{Bor}
use Rattle.std.specs.Slice.Iter.{iter_rest}
use Rattle.guppy_search.specs.declared.ix.direction.DependencyDirection.{DependencyDirection}
use Rattle.guppy_search.specs.Links.{near_end, far_end, links_at}
use Rattle.guppy.specs.declared.metadata.PackageMetadata.{PackageMetadata}
use Rattle.guppy.specs.declared.metadata.links.PackageLinks.{PackageLinks}
use Rattle.guppy.specs.declared.link.PackageLink.{PackageLink}
use Rattle.guppy.specs.Views.{graph_of, package_position, link_graph, link_number}
use Rattle.guppy_graph.specs.Ids.{HasId}
use Rattle.guppy_graph.specs.Graph.{GraphData}

-- the links that leave the package in the direction, ascending by number
abbrev pub links_leaving : PackageMetadata → DependencyDirection → List (Bor GraphData × ℕ)
links_leaving m d =
    map (λ n. (graph_of m, n)) (links_at d (graph_of m).now.links (package_position m))

abbrev pub links_left : PackageLinks → List (Bor GraphData × ℕ)
links_left s = map (λ n. (s.graph, n)) (iter_rest s.rest)

-- the link leaves the one position in the direction, and leads to the other
abbrev pub IsLinkFrom : GraphData → DependencyDirection → ℕ → ℕ → ℕ → Type 0
IsLinkFrom g d p q n = IsSomeAnd (slice_get g.links n) (λ l. (near_end d l ≡ p) × (far_end d l ≡ q))

-- the link leaves the position in the direction, and leads to the package with the ID
abbrev pub IsLinkTo : GraphData → DependencyDirection → ℕ → List ℕ → ℕ → Type 0
IsLinkTo g d p id n =
    IsSomeAnd (slice_get g.links n) (λ l. (near_end d l ≡ p) × HasId g.packages id (far_end d l))

-- the link that leaves the package in the direction and leads to the one with the ID, if there is
-- one
abbrev pub IsLinkBetween : PackageMetadata → DependencyDirection → List ℕ → Option PackageLink
    → Type 0
IsLinkBetween m d id found = MatchOption found
    ((n : ℕ) → ¬ IsLinkTo (graph_of m).now d (package_position m) id n)
    (λ l. (link_graph l ≡ graph_of m)
    × IsLinkTo (graph_of m).now d (package_position m) id (link_number l))
