use Rattle.std.proofs.Common.{◌↔◌, ◌<◌, ℕ, List, Bool, length, map, subst, sym}
use Rattle.std.specs.Prelude.{All, Contains}
use Rattle.guppy_search.proofs.Exits.{if_ok}
use Rattle.guppy_search.specs.declared.ix.direction.DependencyDirection.TheVariants.{Forward}
use Rattle.guppy_search.specs.declared.graph_core.link.Link.{Link}
use Rattle.guppy_search.specs.IxSet.{IsIn}
use Rattle.guppy_core.specs.Listing.{Stands}
use Rattle.guppy_search.specs.Reach.{LinkStep, Mutual}
use Rattle.guppy_core.specs.Sccs.{InOneBlock}
use Rattle.guppy_search.specs.Walked.{AreWalked, numbers_of}
use Rattle.guppy_core.proofs.Listings.{all_standing}
use Rattle.guppy_search.proofs.Members.{IsIn-below}
use Rattle.guppy_core.proofs.RootWalks.{walked_from_roots}
use Rattle.guppy_core.proofs.WholeComponents.{walked_all}
use Rattle.guppy_core.proofs.resolve_core.ResolveCore.links.Goals as goal

pub set_of-requires : goal.set_of-requires
set_of-requires g c =
    let below : (p : ℕ) → Stands (map g.G.Ix.IndexType.index_of c.in_ok-roots.roots.items) p → p < length c.args.graph.now.nodes = λ p s.
    rw (← c.requires.nodes) (IsIn-below c.args.self.now p ((c.in_ok-roots.ensures.roots.members p).0 s).0) in
    subst (All (λ x. g.G.Ix.IndexType.index_of x < length c.args.graph.now.nodes)) (sym c.as_slice.ensures.value)
    (all_standing g.G.Ix.IndexType.index_of (λ p. p < length c.args.graph.now.nodes) c.in_ok-roots.roots.items below)

pub returns : goal.returns
returns g c =
    let links : List (Link g.row.G-Edge.Denot) = c.args.graph.now.links in
    let set : List Bool = c.args.self.now in
    let starts : List Bool = c.in_ok-starts.starts in
    let roots : List ℕ = map g.G.Ix.IndexType.index_of c.in_ok-roots.roots.items in
    let listed : List ℕ = numbers_of c.in_ok-edges.edges in
    let members : (p : ℕ) → IsIn starts p ↔ Contains roots p = rw c.as_slice.ensures.value at c.in_ok-starts.ensures.members in
    let are : AreWalked c.args.direction links set (IsIn starts) listed = subst (λ s. AreWalked c.args.direction links s (IsIn starts) listed) c.self.view_is c.in_ok-edges.ensures.walked in
    record {
      walked = walked_from_roots c.args.direction links set (LinkStep c.args.direction links) (InOneBlock c.args.sccs.now) roots starts listed c.in_ok-roots.ensures.roots members are;
      reach = λ index sccs. walked_from_roots c.args.direction links set (LinkStep c.args.direction links) (Mutual (LinkStep Forward links)) roots starts listed (c.in_ok-roots.ensures.reach index sccs) members are;
      all = λ index sccs holds. walked_all links set holds (length c.args.graph.now.nodes) (λ p h. rw (← c.requires.nodes) (IsIn-below set p h)) index c.args.sccs.now sccs c.args.direction listed
          (walked_from_roots c.args.direction links set (LinkStep c.args.direction links) (Mutual (LinkStep Forward links)) roots starts listed (c.in_ok-roots.ensures.reach index sccs) members are);
      ends = c.in_ok-edges.ensures.ends;
    }

pub returns-in_err-roots : goal.returns-in_err-roots
returns-in_err-roots g c = let none = c.from_residual.ensures.0 in record { walked = if_ok _ _ none; reach = if_ok _ _ none; all = if_ok _ _ none; ends = if_ok _ _ none }

pub returns-in_err-starts : goal.returns-in_err-starts
returns-in_err-starts g c = let none = c.from_residual-in_err-starts.ensures.0 in record { walked = if_ok _ _ none; reach = if_ok _ _ none; all = if_ok _ _ none; ends = if_ok _ _ none }

pub returns-in_err-edges : goal.returns-in_err-edges
returns-in_err-edges g c = let none = c.from_residual-in_err-edges.ensures.0 in record { walked = if_ok _ _ none; reach = if_ok _ _ none; all = if_ok _ _ none; ends = if_ok _ _ none }
