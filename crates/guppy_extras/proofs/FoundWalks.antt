-- What the answer of a search says.
use Rattle.std.proofs.Common.{◌≡◌, ◌↔◌, ◌≤◌, ℕ, List, length, Option, Some, None, refl, sym, subst}
use Rattle.std.specs.Prelude.{slice_get, IfSome, IfNone, IsSome}
use Rattle.guppy_search.specs.declared.ix.direction.DependencyDirection.TheVariants.{Forward}
use Rattle.guppy_search.specs.Reach.{LinkStep, Walk}
use Rattle.guppy_graph.specs.Depends.{DependsOn}
use Rattle.guppy_graph.specs.Graph.{GraphData}
use Rattle.guppy_graph.specs.Ids.{HasId, DistinctBelow}
use Rattle.guppy.specs.Views.{package_position}
use Rattle.guppy_graph.proofs.PackageIds.{position_is}
use Rattle.guppy_extras.specs.declared.why.search.Search.{Search}
use Rattle.guppy_extras.specs.Walk.{IsWalk, NoneShorter, NoWalk}
use Rattle.guppy_extras.specs.Nodes.{Node, AreElsewhere}
use Rattle.guppy_extras.specs.Searches.{nodes_of, links_beside, IsPlaceOf}
use Rattle.guppy_extras.proofs.SearchedWalks.{nearest}
use Rattle.guppy_extras.proofs.WalkLists.{reached, walk_of}

-- no walk is shorter than the one to the first place of a position
pub shortest_at : (s : Search) (p place count : ℕ) (n : Node) → IsPlaceOf s p place → slice_get (nodes_of s) place ≡ Some n → count ≡ n.distance → NoneShorter (links_beside s.start) (package_position s.start) p count
shortest_at s p place count n is at count_is walk leads =
    let m = is.node in
    let same : m ≡ n = (let h = is.at in cc (at, h)) in
    let elsewhere : AreElsewhere (nodes_of s) place m.position = subst (AreElsewhere (nodes_of s) place) (sym is.is) is.elsewhere in
    let there : IsWalk (links_beside s.start) (package_position s.start) m.position walk = subst (λ q. IsWalk (links_beside s.start) (package_position s.start) q walk) (sym is.is) leads in
    let near : m.distance ≤ length walk = nearest (links_beside s.start) (package_position s.start) (nodes_of s) s.seen place is.under_way.searched m is.at elsewhere walk there in
    rw (count_is, ← same) near

-- there is a walk exactly where the one package depends on the other
pub depends_of : (g : GraphData) (a b : List ℕ) (p q : ℕ) → HasId g.packages a p → HasId g.packages b q → DistinctBelow g.packages (length g.packages) → {W : Type 0} (found : Option W) (numbers : W → List ℕ) → IfSome found (λ w. IsWalk g.links p q (numbers w)) → IfNone found (NoWalk g.links p q) → IsSome found ↔ DependsOn g a b
depends_of g a b p q has_a has_b distinct (Some w) numbers walk none = (λ h. (p, q, has_a, has_b, reached g.links p q (numbers w) walk), λ d. refl)
depends_of g a b p q has_a has_b distinct None numbers walk none = (
  λ h. absurd (cc),
  λ d. absurd (
      let from_p : Walk (LinkStep Forward g.links) p d.1 = subst (λ x. Walk (LinkStep Forward g.links) x d.1) (position_is g.packages distinct a d.0 p d.2 has_a) d.4 in
      let to_q : Walk (LinkStep Forward g.links) p q = subst (Walk (LinkStep Forward g.links) p) (position_is g.packages distinct b d.1 q d.3 has_b) from_p in
      let list = walk_of g.links to_q in
      none list.0 list.1),
)
