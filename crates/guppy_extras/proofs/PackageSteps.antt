-- The steps of a search of packages.
use Rattle.std.proofs.Common.{◌≡◌, ◌≢◌, ⊎_elim, ℕ, zero, suc, ◌+◌, ◌<◌, ◌≤◌, Bool, true, false, List, [], ◌∷◌, ◌++◌, length, map, replicate, refl, sym, ap, subst, ◌∙◌, arith, Some, None, Option}
use Rattle.std.specs.Prelude.{slice_get, MatchOption, IfSome}
use Rattle.std.specs.Option.{option_map}
use Rattle.std.specs.Borrow.{Bor}
use Rattle.std.proofs.lemmas.List.{map-append, length-map}
use Rattle.std.proofs.lemmas.List.Elements.{All-push}
use Rattle.std.proofs.lemmas.Bool.{cases_lt}
use Rattle.std.proofs.lemmas.Option.{slice_get-map, slice_get_within, get_or_from_slice_get}
use Rattle.std.proofs.Math.ListN.{set, length-set, length-replicate}
use Rattle.guppy_search.specs.declared.graph_core.link.Link.{Link}
use Rattle.guppy_search.specs.declared.ix.direction.DependencyDirection.TheVariants.{Forward}
use Rattle.guppy_search.specs.Links.{links_at}
use Rattle.guppy_search.specs.IxSet.{has, IsIn}
use Rattle.guppy_search.proofs.Members.{member_count-le-length}
use Rattle.guppy_data.specs.declared.records.LinkRecord.{LinkRecord}
use Rattle.guppy.specs.declared.link.PackageLink.{PackageLink}
use Rattle.guppy.specs.declared.metadata.PackageMetadata.{PackageMetadata}
use Rattle.guppy_graph.specs.Graph.{GraphData}
use Rattle.guppy.specs.Views.{graph_of, graph_packages, package_position, link_graph, link_number, OfLink}
use Rattle.guppy_graph.proofs.Lists.{some_of, some_at}
use Rattle.guppy_extras.specs.declared.why.search.Found.{Found}
use Rattle.guppy_extras.specs.Walk.{NoWalk}
use Rattle.guppy_extras.specs.Nodes.{Node, AreKept, AreElsewhere, IsLedTo, Searched, Following}
use Rattle.guppy_extras.specs.Searches.{node_of, links_beside, IsOfGraph, UnderWay, PartlyFollowed}
use Rattle.guppy_extras.proofs.Places.{at_left}
use Rattle.guppy_extras.proofs.SearchedWalks.{distance_le, no_walk}
use Rattle.guppy_extras.proofs.SearchSteps.{searched_first, following_all, searched_next, following_seen, following_new, searched_new, new_node}

-- a package that was found stands as its node
pub node_at : (xs : List Found) (k : ℕ) (f : Found) → slice_get xs k ≡ Some f → slice_get (map node_of xs) k ≡ Some (node_of f)
node_at xs k f at = slice_get-map node_of xs k ∙ ap (option_map node_of) at

pub nodes_push : (xs ys : List Found) (f : Found) → ys ≡ xs ++ f ∷ [] → map node_of ys ≡ map node_of xs ++ node_of f ∷ []
nodes_push xs ys f grown = ap (map node_of) grown ∙ map-append node_of xs (f ∷ [])

pub kept_push : (xs ys : List Found) (f : Found) → ys ≡ xs ++ f ∷ [] → AreKept (map node_of xs) (map node_of ys)
kept_push xs ys f grown k n at = rw (nodes_push xs ys f grown) (at_left (map node_of xs) (node_of f) k n at)

node_is : (p d q e : ℕ) (last : Option (ℕ × ℕ)) → p ≡ q → d ≡ e → ◌≡◌ {A = Node} (record { position = p; distance = d; last = last }) (record { position = q; distance = e; last = last })
node_is p d q e last same_p same_d = cc

-- a position that is in the set is put in
set_again : (s : List Bool) (p : ℕ) → has s p ≡ true → set s p true ≡ s
set_again [] p h = refl
set_again (b ∷ s) zero h = ap (λ v. v ∷ s) (sym h)
set_again (b ∷ s) (suc p) h = ap (λ t. b ∷ t) (set_again s p h)

module _ (start : PackageMetadata) (found : List Found) (seen : List Bool) where
  -- no package is further than its place
  pub distance_at : (done k : ℕ) (f : Found) → UnderWay start found seen done → slice_get found k ≡ Some f → f.distance ≤ k
  distance_at done k f now at = distance_le (links_beside start) (package_position start) (map node_of found) seen done now.searched k (node_of f) (node_at found k f at)

  -- a link of the graph, whose end is known
  end_of : (link : PackageLink) (m : PackageMetadata) (l : Link LinkRecord) → link_graph link ≡ graph_of start → OfLink link (λ k. package_position m ≡ k.to) → slice_get (links_beside start) (link_number link) ≡ Some l → package_position m ≡ l.to
  end_of link m l same_graph to at =
      let one = some_of (slice_get (link_graph link).now.links (link_number link)) (λ (k : Link LinkRecord). package_position m ≡ k.to) to in
      let there : slice_get (links_beside start) (link_number link) ≡ Some one.0 = subst (λ (g : Bor GraphData). slice_get g.now.links (link_number link) ≡ Some one.0) same_graph one.1 in
      let e : one.0 ≡ l = cc (there, at) in
      one.2 ∙ ap (λ (k : Link LinkRecord). k.to) e

  module _ (place : ℕ) (link : PackageLink) (m : PackageMetadata) (left : List ℕ) (same_graph : link_graph link ≡ graph_of start) (to : OfLink link (λ l. package_position m ≡ l.to)) (now : PartlyFollowed start found seen place (link_number link ∷ left)) where
    abbrev next_link : (l : Link LinkRecord) × (slice_get (links_beside start) (link_number link) ≡ Some l) × (l.from ≡ now.node.position)
    next_link = now.following.row (link_number link) (0, omega arith, refl)

    next_to : package_position m ≡ next_link.0.to
    next_to = end_of link m next_link.0 same_graph to next_link.1

    -- the end of the link was seen before
    pub follows_seen : has seen (package_position m) ≡ true → PartlyFollowed start found (set seen (package_position m) true) place left
    follows_seen has_it =
        let there : IsIn seen next_link.0.to = subst (IsIn seen) next_to has_it in
        let after : Following (links_beside start) (map node_of found) now.node left = following_seen (links_beside start) (package_position start) (map node_of found) seen place now.under_way.searched now.node now.at (link_number link) left next_link.0 next_link.1 now.following there in
        rw (set_again seen (package_position m) has_it) (record { under_way = now.under_way; node = now.node; at = now.at; following = after })

    -- it was not, and the package is put in
    pub follows_new : (f more : Found) (grown : List Found) → slice_get found place ≡ Some f → more ≡ record { metadata = m; distance = f.distance + 1; last = Some (link, place) } → grown ≡ found ++ more ∷ [] → graph_of m ≡ link_graph link → package_position m < length seen → has seen (package_position m) ≡ false → PartlyFollowed start grown (set seen (package_position m) true) place left
    follows_new f more grown at is grew own_graph within lacks =
        let under = now.under_way in
        let same : now.node ≡ node_of f = cc (now.at, node_at found place f at) in
        let added : Node = new_node (links_beside start) (package_position start) (map node_of found) seen place under.searched now.node now.at (link_number link) left next_link.0 next_link.1 now.following in
        let is_node : node_of more ≡ added = ap node_of is ∙ node_is (package_position m) (f.distance + 1) (next_link.0.to) (now.node.distance + 1) (Some (link_number link, place)) next_to (ap (λ (n : Node). n.distance + 1) (sym same)) in
        let nodes_are : map node_of grown ≡ map node_of found ++ added ∷ [] = nodes_push found grown more grew ∙ ap (λ n. map node_of found ++ n ∷ []) is_node in
        let below : next_link.0.to < length seen = subst (λ p. p < length seen) next_to within in
        let lacked : has seen next_link.0.to ≡ false = ap (has seen) (sym next_to) ∙ lacks in
        let searched = searched_new (links_beside start) (package_position start) (map node_of found) seen place under.searched now.node now.at (link_number link) left next_link.0 next_link.1 now.following next_link.2 lacked below in
        let after = following_new (links_beside start) (package_position start) (map node_of found) seen place under.searched now.node now.at (link_number link) left next_link.0 next_link.1 now.following in
        record {
          under_way = record {
            of_graph = rw (grew, is) (All-push (IsOfGraph (graph_of start)) found _ under.of_graph (own_graph ∙ same_graph, same_graph));
            count = length-set seen (package_position m) true ∙ under.count;
            searched = subst (λ ns. Searched (links_beside start) (package_position start) ns (set seen (package_position m) true) place) (sym nodes_are) (subst (λ p. Searched (links_beside start) (package_position start) (map node_of found ++ added ∷ []) (set seen p true) place) (sym next_to) searched);
          };
          node = now.node;
          at = subst (λ ns. slice_get ns place ≡ Some now.node) (sym nodes_are) (at_left (map node_of found) added place now.node now.at);
          following = subst (λ ns. Following (links_beside start) ns now.node left) (sym nodes_are) after;
        }

-- where a search begins
pub under_way_first : (start : PackageMetadata) (found : List Found) (seen : List Bool) (count : ℕ) → count ≡ length (graph_packages start) → package_position start < count → found ≡ record { metadata = start; distance = 0; last = None } ∷ [] → seen ≡ set (replicate count false) (package_position start) true → UnderWay start found seen 0
under_way_first start found seen count is_count within is_found is_seen = rw (is_found, is_seen) (record {
  of_graph = All-push (IsOfGraph (graph_of start)) [] _ (λ k d h. absurd (omega arith)) (refl, tt);
  count = length-set (replicate count false) (package_position start) true ∙ length-replicate count false ∙ is_count;
  searched = searched_first (links_beside start) (package_position start) count within;
})

module _ (start : PackageMetadata) (found : List Found) (seen : List Bool) (done : ℕ) (now : UnderWay start found seen done) where
  -- no more packages are found than there are
  pub room : (k : ℕ) → k < length found → k < length seen
  room k within =
      let few = now.searched.few in
      let same = length-map found node_of in
      let le = member_count-le-length seen in
      omega arith

  -- package and link are of the graph
  of_graph_at : (k : ℕ) (f : Found) → slice_get found k ≡ Some f → IsOfGraph (graph_of start) f
  of_graph_at k f at = subst (IsOfGraph (graph_of start)) (get_or_from_slice_get found k f f at) (now.of_graph k f (slice_get_within found k f at))

  pub graph_at : (k : ℕ) (f : Found) → slice_get found k ≡ Some f → graph_of f.metadata ≡ graph_of start
  graph_at k f at = (of_graph_at k f at).0

  module _ (k : ℕ) (f : Found) (at : slice_get found k ≡ Some f) where
    abbrev pub IsEnteredBy : Option (ℕ × ℕ) → Type 0
    IsEnteredBy last = MatchOption last ((package_position f.metadata ≡ package_position start) × (f.distance ≡ 0)) (λ pair. IsLedTo (links_beside start) (map node_of found) k (node_of f) pair.0 pair.1)

    entered_at : IsEnteredBy (node_of f).last
    entered_at = now.searched.entered k (node_of f) (node_at found k f at)

    -- its last link leads to it
    pub led_at : (link : PackageLink) (before : ℕ) → f.last ≡ Some (link, before) → IsLedTo (links_beside start) (map node_of found) k (node_of f) (link_number link) before
    led_at link before is = subst IsEnteredBy (ap (option_map (λ (last : PackageLink × ℕ). (link_number last.0, last.1))) is) entered_at

    pub link_graph_at : (link : PackageLink) (before : ℕ) → f.last ≡ Some (link, before) → link_graph link ≡ graph_of start
    link_graph_at link before is = subst (λ (last : Option (PackageLink × ℕ)). IfSome last (λ pair. link_graph pair.0 ≡ graph_of start)) is (of_graph_at k f at).1

    -- it has none, and is the start
    pub begun_at : f.last ≡ None → (package_position f.metadata ≡ package_position start) × (f.distance ≡ 0)
    begun_at is = subst IsEnteredBy (ap (option_map (λ (last : PackageLink × ℕ). (link_number last.0, last.1))) is) entered_at

    -- none of the links of the package at `done` was followed
    pub partly_first : k ≡ done → PartlyFollowed start found seen done (links_at Forward (links_beside start) (package_position f.metadata))
    partly_first same =
        let here : slice_get (map node_of found) done ≡ Some (node_of f) = subst (λ i. slice_get (map node_of found) i ≡ Some (node_of f)) same (node_at found k f at) in
        record {
          under_way = now;
          node = node_of f;
          at = here;
          following = following_all (links_beside start) (package_position start) (map node_of found) seen done now.searched (node_of f) here;
        }

  -- no walk leads to a position at which no package was found, once all links were followed
  pub none_at : (b : ℕ) → length found ≤ done → AreElsewhere (map node_of found) done b → NoWalk (links_beside start) (package_position start) b
  none_at b all elsewhere =
      let same = length-map found node_of in
      no_walk (links_beside start) (package_position start) (map node_of found) seen done now.searched b (omega arith) elsewhere

-- all links of the package were followed
pub partly_done : (start : PackageMetadata) (found : List Found) (seen : List Bool) (place : ℕ) (left : List ℕ) → left ≡ [] → PartlyFollowed start found seen place left → UnderWay start found seen (place + 1)
partly_done start found seen place left none now =
    let all : Following (links_beside start) (map node_of found) now.node [] = subst (Following (links_beside start) (map node_of found) now.node) none now.following in
    record {
      of_graph = now.under_way.of_graph;
      count = now.under_way.count;
      searched = searched_next (links_beside start) (package_position start) (map node_of found) seen place now.under_way.searched now.node now.at all;
    }

pub partly_within : (start : PackageMetadata) (found : List Found) (seen : List Bool) (place : ℕ) (left : List ℕ) → PartlyFollowed start found seen place left → place < length found
partly_within start found seen place left now =
    let within = slice_get_within (map node_of found) place now.node now.at in
    let same = length-map found node_of in
    omega arith

-- where the nodes so far stay in their places, and none up to a place is at the position
pub elsewhere_more : (nodes more : List Node) (place b : ℕ) (n : Node) → AreKept nodes more → slice_get nodes place ≡ Some n → n.position ≢ b → AreElsewhere nodes place b → AreElsewhere more (place + 1) b
elsewhere_more nodes more place b n kept at other elsewhere k m less at_m =
    let within = slice_get_within nodes place n at in
    let old = some_at nodes k (omega arith) in
    let same : old.0 ≡ m = (let e = kept k old.0 old.1 in cc) in
    let position : old.0.position ≡ m.position = ap (λ (x : Node). x.position) same in
    λ is. ⊎_elim
    (λ before. elsewhere k old.0 before old.1 (position ∙ is))
    (λ later.
    let here : k ≡ place = omega arith in
    let there : slice_get nodes place ≡ Some old.0 = subst (λ i. slice_get nodes i ≡ Some old.0) here old.1 in
    let e : n ≡ old.0 = cc (at, there) in
    other (ap (λ (x : Node). x.position) e ∙ position ∙ is))
    (cases_lt k place)
