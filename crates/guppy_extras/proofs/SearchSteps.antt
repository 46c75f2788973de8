-- The steps of a search.
use Rattle.std.proofs.Common.{◌≡◌, ⊎_elim, ℕ, zero, suc, ◌+◌, ◌<◌, ◌≤◌, Bool, true, false, List, [], ◌∷◌, ◌++◌, length, replicate, inl, inr, refl, sym, ap, subst, ◌∙◌, arith, Some, None, length-append}
use Rattle.std.specs.Prelude.{slice_get, MatchOption}
use Rattle.std.proofs.lemmas.Bool.{cases_lt}
use Rattle.std.proofs.lemmas.List.{get_or_default}
use Rattle.std.proofs.lemmas.Option.{slice_get_within}
use Rattle.std.proofs.Math.ListN.{set, length-replicate}
use Rattle.guppy_search.specs.declared.ix.direction.DependencyDirection.TheVariants.{Forward}
use Rattle.guppy_search.specs.declared.graph_core.link.Link.{Link}
use Rattle.guppy_search.specs.IxSet.{has, IsIn}
use Rattle.guppy_search.specs.Links.{links_at}
use Rattle.guppy_search.proofs.Lists.{nothing_in, Contains-cons_cases, Contains-later}
use Rattle.guppy_search.proofs.Members.{member_count-set, member_count-replicate, has-replicate, member-set_cases, only_member}
use Rattle.guppy_search.proofs.Rows.{row_has, row_links}
use Rattle.guppy_extras.specs.Nodes.{Node, IsFoundWithin, IsLedTo, IsEntered, start_node, Searched, Following}
use Rattle.guppy_extras.proofs.Places.{at_left, at_last, at_cases}

only_node : (m : Node) (k : ℕ) (n : Node) → slice_get (m ∷ []) k ≡ Some n → m ≡ n
only_node m zero n at = cc
only_node m (suc k) n at = absurd (cc)

module _ {E : Type 0} (links : List (Link E)) (start : ℕ) where
  -- the start alone was found
  pub searched_first : (count : ℕ) → start < count → Searched links start (start_node start ∷ []) (set (replicate count false) start true) 0
  searched_first count within = record {
    begins = refl;
    entered = λ k n at. subst (λ (x : Node). IsEntered links start (start_node start ∷ []) k x) (only_node (start_node start) k n at) (refl, refl);
    rising = λ j k m n le at_j at_k. let e = ap (λ (x : Node). x.distance) (sym (only_node (start_node start) j m at_j) ∙ only_node (start_node start) k n at_k) in omega arith;
    near = λ k m n at_m at_n. let e = ap (λ (x : Node). x.distance) (sym (only_node (start_node start) 0 m at_m) ∙ only_node (start_node start) k n at_n) in omega arith;
    followed = λ k number m l before at found from. absurd (omega arith);
    found = λ p h. (0, start_node start, refl, only_member count start p h);
    few =
        let inside : start < length (replicate count false) = rw (length-replicate count false) within in
        let one = member_count-set (replicate count false) start inside (has-replicate count start) in
        let none = member_count-replicate count in
        omega arith;
  }

  module _ (nodes : List Node) (seen : List Bool) (done : ℕ) (now : Searched links start nodes seen done) where
    module _ (m : Node) (at : slice_get nodes done ≡ Some m) where
      -- none of the links of the node was followed
      pub following_all : Following links nodes m (links_at Forward links m.position)
      following_all = record {
        row = λ number h. (let one = row_links Forward links m.position h.0 h.1 in let e = get_or_default (links_at Forward links m.position) h.0 number 0 h.1 in (one.link, subst (λ i. slice_get links i ≡ Some one.link) (sym e ∙ h.2) one.found, one.near));
        followed = λ number l found from. inl (row_has Forward links m.position number l found from);
      }

      -- all were
      pub searched_next : Following links nodes m [] → Searched links start nodes seen (done + 1)
      searched_next all = record {
        begins = now.begins;
        entered = now.entered;
        rising = now.rising;
        near = λ k v n at_v at_n.
            let up : m.distance ≤ v.distance = now.rising done (done + 1) m v (omega arith) at at_v in
            let close : n.distance ≤ m.distance + 1 = now.near k m n at at_n in
            omega arith;
        followed = λ k number v l before at_v found from. ⊎_elim
            (λ earlier. now.followed k number v l earlier at_v found from)
            (λ later.
            let here : k ≡ done = omega arith in
            let same : m ≡ v = (let e : slice_get nodes done ≡ Some v = subst (λ (i : ℕ). slice_get nodes i ≡ Some v) here at_v in cc) in
            let from_m : l.from ≡ m.position = from ∙ ap (λ (x : Node). x.position) (sym same) in
            subst (λ (x : Node). IsFoundWithin nodes l.to (x.distance + 1)) same
            (⊎_elim (λ h. absurd (nothing_in number h)) (λ h. h) (all.followed number l found from_m)))
            (cases_lt k done);
        found = now.found;
        few = now.few;
      }

      module _ (number : ℕ) (left : List ℕ) (l : Link E) (found : slice_get links number ≡ Some l) (others : Following links nodes m (number ∷ left)) where
        -- the end of the next link was seen before
        pub following_seen : IsIn seen l.to → Following links nodes m left
        following_seen there = record {
          row = λ other h. others.row other (Contains-later number other left h);
          followed = λ other k found_k from. elim (others.followed other k found_k from) [
            | inl c ↦ elim (Contains-cons_cases number other left c) [
              | inl same ↦
                  let e : l ≡ k = (let e : slice_get links number ≡ Some k = subst (λ (i : ℕ). slice_get links i ≡ Some k) (sym same) found_k in cc) in
                  let place = now.found l.to there in
                  let close : place.1.distance ≤ m.distance + 1 = now.near place.0 m place.1 at place.2 in
                  inr (subst (λ (x : Link E). IsFoundWithin nodes x.to (m.distance + 1)) e (place.0, place.1, place.2, place.3, close))
              | inr later ↦ inl later
            ]
            | inr h ↦ inr h
          ];
        }

        -- it was not, and is put in
        abbrev pub new_node : Node
        new_node = record { position = l.to; distance = m.distance + 1; last = Some (number, done) }

        still_found : (p distance : ℕ) → IsFoundWithin nodes p distance → IsFoundWithin (nodes ++ new_node ∷ []) p distance
        still_found p distance f = (f.0, f.1, at_left nodes new_node f.0 f.1 f.2, f.3, f.4)

        still_entered : (k : ℕ) (n : Node) → IsEntered links start nodes k n → IsEntered links start (nodes ++ new_node ∷ []) k n
        still_entered k n = elim n.last as (λ last. MatchOption last ((n.position ≡ start) × (n.distance ≡ 0)) (λ pair. IsLedTo links nodes k n pair.0 pair.1) → MatchOption last ((n.position ≡ start) × (n.distance ≡ 0)) (λ pair. IsLedTo links (nodes ++ new_node ∷ []) k n pair.0 pair.1)) [
          | None ↦ λ h. h
          | Some pair ↦ λ h. record { earlier = h.earlier; link = h.link; is_before = h.is_before; at = at_left nodes new_node pair.1 h.earlier h.at; found = h.found; leaves = h.leaves; ends = h.ends; distance_is = h.distance_is }
        ]

        module _ (leaves : l.from ≡ m.position) where
          new_entered : IsEntered links start (nodes ++ new_node ∷ []) (length nodes) new_node
          new_entered = record {
            earlier = m;
            link = l;
            is_before = slice_get_within nodes done m at;
            at = at_left nodes new_node done m at;
            found = found;
            leaves = leaves;
            ends = refl;
            distance_is = refl;
          }

          pub searched_new : has seen l.to ≡ false → l.to < length seen → Searched links start (nodes ++ new_node ∷ []) (set seen l.to true) done
          searched_new lacks within =
              let below : done < length nodes = slice_get_within nodes done m at in
              record {
                begins = at_left nodes new_node 0 (start_node start) now.begins;
                entered = λ k n at_n. elim (at_cases nodes new_node k n at_n) [
                  | inl old ↦ still_entered k n (now.entered k n old)
                  | inr new ↦ subst (λ (x : Node). IsEntered links start (nodes ++ new_node ∷ []) k x) new.1 (subst (λ (i : ℕ). IsEntered links start (nodes ++ new_node ∷ []) i new_node) (sym new.0) new_entered)
                ];
                rising = λ j k v n le at_v at_n. elim (at_cases nodes new_node j v at_v) [
                  | inl old_v ↦ elim (at_cases nodes new_node k n at_n) [
                    | inl old_n ↦ now.rising j k v n le old_v old_n
                    | inr new_n ↦ subst (λ (x : Node). v.distance ≤ x.distance) new_n.1 (now.near j m v at old_v)
                  ]
                  | inr new_v ↦ elim (at_cases nodes new_node k n at_n) [
                    | inl old_n ↦ absurd (let b : k < length nodes = slice_get_within nodes k n old_n in let e : j ≡ length nodes = new_v.0 in omega arith)
                    | inr new_n ↦ (let e : v ≡ n = sym new_v.1 ∙ new_n.1 in let d = ap (λ (x : Node). x.distance) e in omega arith)
                  ]
                ];
                near = λ k v n at_v at_n. elim (at_cases nodes new_node done v at_v) [
                  | inl old_v ↦ elim (at_cases nodes new_node k n at_n) [
                    | inl old_n ↦ now.near k v n old_v old_n
                    | inr new_n ↦
                        let e : m ≡ v = cc (at, old_v) in
                        let d = ap (λ (x : Node). x.distance) e in
                        let f = ap (λ (x : Node). x.distance) new_n.1 in
                        omega arith
                  ]
                  | inr new_v ↦ absurd (let e : done ≡ length nodes = new_v.0 in omega arith)
                ];
                followed = λ k other v x before at_v found_x from. elim (at_cases nodes new_node k v at_v) [
                  | inl old ↦ still_found x.to (v.distance + 1) (now.followed k other v x before old found_x from)
                  | inr new ↦ absurd (let e : k ≡ length nodes = new.0 in omega arith)
                ];
                found = λ p h. elim (member-set_cases seen l.to p h) [
                  | inl old ↦ (let f = now.found p old in (f.0, f.1, at_left nodes new_node f.0 f.1 f.2, f.3))
                  | inr same ↦ (length nodes, new_node, at_last nodes new_node, same)
                ];
                few =
                    let one = member_count-set seen l.to within lacks in
                    let more = length-append nodes (new_node ∷ []) in
                    let was = now.few in
                    omega arith;
              }

        pub following_new : Following links (nodes ++ new_node ∷ []) m left
        following_new = record {
          row = λ other h. others.row other (Contains-later number other left h);
          followed = λ other k found_k from. elim (others.followed other k found_k from) [
            | inl c ↦ elim (Contains-cons_cases number other left c) [
              | inl same ↦
                  let e : l ≡ k = (let e : slice_get links number ≡ Some k = subst (λ (i : ℕ). slice_get links i ≡ Some k) (sym same) found_k in cc) in
                  inr (length nodes, new_node, at_last nodes new_node, ap (λ (x : Link E). x.to) e, omega arith)
              | inr later ↦ inl later
            ]
            | inr h ↦ inr (still_found k.to (m.distance + 1) h)
          ];
        }
