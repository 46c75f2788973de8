-- The packages and links of a drawing, by their numbers.
use Rattle.std.proofs.Common.{◌≡◌, ◌↔◌, ⊎_elim, refl, sym, ap, subst, ℕ, zero, suc, ◌<◌, List, [], ◌∷◌, ◌++◌, length, map, arith, Bool, Contains, None, Some, All}
use Rattle.std.specs.Prelude.{Option, IsSome, IsSomeAnd, IsTrue, slice_get}
use Rattle.std.specs.Option.{option_and_then}
use Rattle.std.specs.List.{AllZip}
use Rattle.std.specs.List.Sorted.{IsPermutation}
use Rattle.std.proofs.lemmas.Bool.{cases_order}
use Rattle.std.proofs.lemmas.List.{map_push}
use Rattle.std.proofs.lemmas.List.Sorted.{Contains-permutation, All-permutation}
use Rattle.indexmap.proofs.SetLemmas.{AllZip-push}
use Rattle.guppy_search.specs.declared.ix.direction.DependencyDirection.TheVariants.{Forward}
use Rattle.guppy_search.specs.declared.graph_core.link.Link.{Link}
use Rattle.guppy_search.specs.Resolve.{EachAfter}
use Rattle.guppy_search.proofs.Members.{IsIn-below}
use Rattle.guppy_search.proofs.Walks.{walk_on}
use Rattle.guppy_search.specs.IxSet.{IsIn}
use Rattle.guppy_core.specs.Listing.{IsOnce}
use Rattle.guppy_search.specs.Reach.{LinkStep, ReachedFrom, here}
use Rattle.guppy_core.proofs.Listings.{stands_contains, contains_stands}
use Rattle.guppy_data.specs.declared.records.LinkRecord.{LinkRecord}
use Rattle.guppy_data.specs.declared.records.PackageRecord.{PackageRecord}
use Rattle.guppy_graph.specs.Cycles.{AreCyclic}
use Rattle.guppy_graph.specs.Graph.{GraphData}
use Rattle.guppy_graph.specs.Ids.{HasId, IsKnown, ids_of}
use Rattle.guppy.specs.Query.{IsSetOfIds, SetData}
use Rattle.guppy_graph.specs.Members.{member_path}
use Rattle.guppy.specs.Views.{LinkData, link_in, package_in}
use Rattle.guppy.specs.Walked.{AreLinksInside, AreWalkedLinks, IsWhole}
use Rattle.guppy_data.proofs.Mapped.{Contains-map, from_map}
use Rattle.guppy_dot.specs.Dot.{AreEdges, AreNodes, AreOnceAll, Edge, IsDrawn, IsEdge, IsLinkWithin, IsNode, Node, ShowsLink, style_of}
use Rattle.guppy_dot.proofs.GivenIds.{iff_trans}

cut_at : (xs : List ℕ) (j x : ℕ) → slice_get xs j ≡ Some x → (before after : List ℕ) × (xs ≡ before ++ x ∷ after)
cut_at [] j x at = absurd (cc at)
cut_at (y ∷ ys) zero x at = let same : y ≡ x = cc at in ([], ys, ap (λ z. z ∷ ys) same)
cut_at (y ∷ ys) (suc j) x at = let rest = cut_at ys j x at in (y ∷ rest.0, rest.1, ap (λ l. y ∷ l) rest.2)

twice : (xs : List ℕ) (i j x : ℕ) → i < j → slice_get xs i ≡ Some x → slice_get xs j ≡ Some x → (before after : List ℕ) × (xs ≡ before ++ x ∷ after) × Contains before x
twice [] i j x less first second = absurd (cc first)
twice (y ∷ ys) zero zero x less first second = absurd (omega arith)
twice (y ∷ ys) (suc i) zero x less first second = absurd (omega arith)
twice (y ∷ ys) zero (suc j) x less first second =
    let rest = cut_at ys j x second in
    let same : y ≡ x = cc first in
    (y ∷ rest.0, rest.1, ap (λ l. y ∷ l) rest.2, (zero, omega arith, same))
twice (y ∷ ys) (suc i) (suc j) x less first second =
    let rest = twice ys i j x (omega arith) first second in
    (y ∷ rest.0, rest.1, ap (λ l. y ∷ l) rest.2, (suc rest.3.0, (let below = rest.3.1 in omega arith), rest.3.2))

-- a list with no element among those before it has none twice
none_twice : (xs : List ℕ) → EachAfter (λ before x. ¬ Contains before x) xs → IsOnce xs
none_twice xs new i j x first second = ⊎_elim
    (λ same. same)
    (λ apart. ⊎_elim
    (λ less. let cut = twice xs i j x less first second in absurd (new cut.0 x cut.1 cut.2 cut.3))
    (λ more. let cut = twice xs j i x more second first in absurd (new cut.0 x cut.1 cut.2 cut.3)) apart)
    (cases_order i j)

-- one more of two lists that fit
pub fits_push : {A B C D : Type 0} (R : C → D → Type 0) (f : A → C) (h : B → D) (xs : List A) (ys new : List B) (x : A) (y : B) → new ≡ ys ++ y ∷ []
    → AllZip R (map f xs) (map h ys) → R (f x) (h y) → AllZip R (map f (xs ++ x ∷ [])) (map h new)
fits_push R f h xs ys new x y pushed fit this = rw (pushed, map_push f xs x, map_push h ys y) (AllZip-push R (map f xs) (map h ys) (f x) (h y) fit this)

value_of : {X : Type 0} (P : X → Type 0) (o : Option X) → IsSomeAnd o P → (x : X) × (o ≡ Some x) × P x
value_of P None holds = absurd holds
value_of P (Some x) holds = (x, refl, holds)

number_among : (g : GraphData) (numbers : List ℕ) (m n : ℕ) → link_in g m ≡ link_in g n → Contains numbers m → Contains numbers n
number_among g numbers m n same among = subst (Contains numbers) (ap (λ (l : LinkData). l.number) same) among

-- the numbers of links that are walked, where these are exactly those inside the set
pub walked_numbers : (s : SetData) (links : List LinkData) → (walked : AreWalkedLinks Forward s links) → AreLinksInside s links → AreOnceAll (IsLinkWithin s.graph (IsIn s.included)) walked.0
walked_numbers s links walked inside = record {
  once = none_twice walked.0 walked.1.once;
  exact = λ n. (
    λ stands.
        let at = (inside n).0 (rw walked.2 (Contains-map (link_in s.graph) walked.0 n (stands_contains walked.0 n stands))) in
        rw at.1 at.2,
    λ within.
        let at = value_of _ _ within in
        let among = from_map (link_in s.graph) walked.0 (link_in s.graph n) (rw walked.2 at ((inside n).1 (at.0, at.1, at.2))) in
        contains_stands walked.0 n (number_among s.graph walked.0 among.0 n among.2 among.1),
  );
}

-- what is reached holds each component that it touches
pub reached_whole : (s : SetData) (Start : ℕ → Type 0) → ((p : ℕ) → IsIn s.included p ↔ ReachedFrom (LinkStep Forward s.graph.links) Start p) → IsWhole s
reached_whole s Start reaches x y within both = let from = (reaches x).0 within in (reaches y).1 (from.0, from.1, walk_on from.2 both.0)

at_place : {X : Type 0} (xs : List X) (p : ℕ) → p < length xs → (x : X) × (slice_get xs p ≡ Some x)
at_place [] p below = absurd (omega arith)
at_place (x ∷ xs) zero below = (x, refl)
at_place (x ∷ xs) (suc p) below = at_place xs p (omega arith)

id_among : (packages : List PackageRecord) (p : ℕ) (r : PackageRecord) → slice_get packages p ≡ Some r → Contains (ids_of packages) r.id
id_among [] p r at = absurd (cc at)
id_among (q ∷ qs) zero r at = let same : q ≡ r = cc at in (zero, omega arith, ap (λ (it : PackageRecord). it.id) same)
id_among (q ∷ qs) (suc p) r at = let rest = id_among qs p r at in (suc rest.0, (let below = rest.1 in omega arith), rest.2)

known_later : (packages : List PackageRecord) (q : PackageRecord) (id : List ℕ) → IsKnown packages id → IsKnown (q ∷ packages) id
known_later packages q id (p, has) = (suc p, has)

all_known : (packages : List PackageRecord) → All (IsKnown packages) (ids_of packages)
all_known [] k d within = absurd (omega arith)
all_known (q ∷ qs) zero d within = (zero, refl)
all_known (q ∷ qs) (suc k) d within = known_later qs q _ (all_known qs k d (omega arith))

-- each ID of a permutation of the packages' is known
pub permuted_known : (packages : List PackageRecord) (ids : List (List ℕ)) → IsPermutation (ids_of packages) ids → All (IsKnown packages) ids
permuted_known packages ids permuted = All-permutation (IsKnown packages) (ids_of packages) ids permuted (all_known packages)

-- what is reached from all packages is all packages
pub all_from_all : (set : SetData) (g : GraphData) (ids : List (List ℕ)) (initials : List Bool) → length set.included ≡ length g.packages → IsPermutation (ids_of g.packages) ids → IsSetOfIds g.packages ids initials
    → ((p : ℕ) → IsIn set.included p ↔ ReachedFrom (LinkStep Forward g.links) (IsIn initials) p) → (p : ℕ) → IsIn set.included p ↔ (p < length g.packages)
all_from_all set g ids initials count permuted named reaches p = (
  λ within. rw (sym count) (IsIn-below set.included p within),
  λ below.
      let at = at_place g.packages p below in
      (reaches p).1 (p, (named.members p).1 (at.0.id, Contains-permutation _ _ _ permuted (id_among g.packages p at.0 at.1), rw at.1 refl), here),
)

-- where IDs are given, what is reached from their packages is drawn
pub reached_drawn : (set : SetData) (g : GraphData) (ids : List (List ℕ)) (initials : List Bool) → 0 < length ids → IsSetOfIds g.packages ids initials
    → ((p : ℕ) → IsIn set.included p ↔ ReachedFrom (LinkStep Forward g.links) (IsIn initials) p) → (p : ℕ) → IsIn set.included p ↔ IsDrawn g ids p
reached_drawn set g [] initials some named reaches p = absurd (omega arith)
reached_drawn set g (id ∷ ids) initials some named reaches p = (
  λ h. let from = (reaches p).0 h in (from.0, (named.members from.0).0 from.1, from.2),
  λ h. (reaches p).1 (h.0, (named.members h.0).1 h.1, h.2),
)

-- what is a member where there is a package
pub member_there : (o : Option PackageRecord) (b : Bool) → IsSomeAnd o (λ r. IsTrue b ↔ IsSome (member_path r)) → IsTrue b ↔ IsSome (option_and_then member_path o)
member_there None b fact = absurd fact
member_there (Some r) b fact = fact

-- what is drawn of a link, where there is one
pub link_there : (o : Option (Link LinkRecord)) (g : GraphData) (edge : Edge) (p q : ℕ) → IsSomeAnd o (λ l. p ≡ l.from) → IsSomeAnd o (λ l. q ≡ l.to) → IsSomeAnd o (λ l. edge.style ≡ style_of l.edge)
    → HasId g.packages edge.from p → HasId g.packages edge.to q → (IsTrue edge.is_cyclic ↔ AreCyclic g edge.from edge.to) → IsSomeAnd o (ShowsLink g edge)
link_there None g edge p q from to style at_from at_to cyclic = absurd from
link_there (Some l) g edge p q from to style at_from at_to cyclic = record {
  from_is = subst (HasId g.packages edge.from) from at_from;
  to_is = subst (HasId g.packages edge.to) to at_to;
  style_is = style;
  cyclic = cyclic;
}

within_both : (P Q : ℕ → Type 0) → ((p : ℕ) → P p → Q p) → (o : Option (Link LinkRecord)) → IsSomeAnd o (λ l. P l.from × P l.to) → IsSomeAnd o (λ l. Q l.from × Q l.to)
within_both P Q on None holds = absurd holds
within_both P Q on (Some l) holds = (on l.from holds.0, on l.to holds.1)

-- what is drawn of a set, where P tells what is in the set
pub set_drawn : (s : SetData) (g : GraphData) (P : ℕ → Type 0) (nodes : List Node) (edges : List Edge) → s.graph ≡ g → ((p : ℕ) → IsIn s.included p ↔ P p)
    → AreNodes s.graph (IsIn s.included) nodes → AreEdges s.graph (IsIn s.included) edges → AreNodes g P nodes × AreEdges g P edges
set_drawn s g P nodes edges same exact are_nodes are_edges = (
  record {
    positions = are_nodes.positions;
    all = record { once = are_nodes.all.once; exact = λ p. iff_trans (are_nodes.all.exact p) (exact p) };
    drawn = subst (λ (v : GraphData). AllZip IsNode (map (package_in v) are_nodes.positions) nodes) same are_nodes.drawn;
  },
  record {
    numbers = are_edges.numbers;
    all = record {
      once = are_edges.all.once;
      exact = λ n. iff_trans (are_edges.all.exact n) (subst (λ (v : GraphData). IsLinkWithin s.graph (IsIn s.included) n ↔ IsLinkWithin v P n) same (
        within_both (IsIn s.included) P (λ p. (exact p).0) (slice_get s.graph.links n),
        within_both P (IsIn s.included) (λ p. (exact p).1) (slice_get s.graph.links n),
      ));
    };
    drawn = subst (λ (v : GraphData). AllZip IsEdge (map (link_in v) are_edges.numbers) edges) same are_edges.drawn;
  },
)
