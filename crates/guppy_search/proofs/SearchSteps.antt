-- Each step of a search.
use Rattle.std.proofs.Common.{◌≡◌, ◌⊎◌, ℕ, suc, ◌+◌, ◌<◌, ◌≤◌, Bool, true, false, inl, inr, List, [], ◌∷◌, ◌++◌, length, get_or, set, refl, sym, ap, subst, ◌∙◌, length-append, append_assoc, arith, Some}
use Rattle.std.specs.Prelude.{slice_get, Contains, All, ◌==◌}
use Rattle.std.proofs.lemmas.Bool.{false_from_ne_true}
use Rattle.std.proofs.lemmas.List.{append-nil, get_or_default, get_or-set_same}
use Rattle.std.proofs.lemmas.Option.{slice_get_within, get_or_from_slice_get}
use Rattle.std.proofs.lemmas.List.Elements.{Contains-push, Contains-append_left, Contains-push_cases}
use Rattle.guppy_search.specs.declared.ix.direction.DependencyDirection.{DependencyDirection}
use Rattle.guppy_search.specs.declared.ix.direction.DependencyDirection.TheVariants.{Forward, Reverse}
use Rattle.guppy_search.specs.declared.graph_core.link.Link.{Link}
use Rattle.guppy_search.specs.Links.{near_end, far_end, links_at, EndsBelow}
use Rattle.guppy_search.specs.IxSet.{has, IsIn, member_count, positions_in}
use Rattle.guppy_search.specs.Resolve.{IsShown, LeavesOne, IsIncluded, JudgesResolve, Visits, IsCallable}
use Rattle.guppy_search.specs.Searching.{IsAscending, Waits, Seeded, Searching, Shows, MayGoOn}
use Rattle.guppy_search.proofs.Lists.{nothing_in, Contains-first, Contains-later, Contains-cons_cases, EachAfter-nil, EachAfter-push, EachAfter-pop, FoldsTo-append}
use Rattle.guppy_search.proofs.Members.{IsIn-below, member-set_cases, member-set_keeps, member_count-set, member_count-lt-length}
use Rattle.guppy_search.proofs.Positions.{positions_from-are, positions_from-have}
use Rattle.guppy_search.proofs.Numbers.{numbers_ascend}
use Rattle.guppy_search.proofs.Rows.{row_links, row_has}

-- nothing waits
pub Waits-none : (set : List Bool) → Waits set []
Waits-none set = record { in_set = λ p h. absurd (nothing_in p h); once = EachAfter-nil _; few = omega arith }

-- a new position waits too
pub Waits-add : (s : List Bool) (waiting : List ℕ) (p : ℕ) → p < length s → ¬ IsIn s p → Waits s waiting → Waits (set s p true) (waiting ++ p ∷ [])
Waits-add s waiting p h new w = record {
  in_set = λ q k. elim (Contains-push_cases waiting p q k) [ inl c ↦ member-set_keeps s p q h (w.in_set q c) | inr e ↦ subst (IsIn (set s p true)) e (get_or-set_same s p true false h) ];
  once = EachAfter-push _ waiting p w.once (λ k. new (w.in_set p k));
  few = let a = member_count-set s p h (false_from_ne_true (has s p) new) in let d = w.few in simp length-append (omega arith);
}

-- while a position is new, fewer wait than there are
pub Waits-room : (s : List Bool) (waiting : List ℕ) (p : ℕ) → p < length s → ¬ IsIn s p → Waits s waiting → length waiting < length s
Waits-room s waiting p h new w = let a = member_count-lt-length s p h (false_from_ne_true (has s p) new) in let d = w.few in omega arith

-- the last of those that wait is in the set, and did not wait twice
pub Waits-pop : (s : List Bool) (waiting : List ℕ) (p : ℕ) → Waits s (waiting ++ p ∷ []) → Waits s waiting × IsIn s p × ¬ Contains waiting p
Waits-pop s waiting p w = (
  record {
    in_set = λ q k. w.in_set q (Contains-append_left waiting (p ∷ []) q k);
    once = (EachAfter-pop _ waiting p w.once).0;
    few = let d = simp length-append at w.few in omega arith;
  },
  w.in_set p (Contains-push waiting p),
  (EachAfter-pop _ waiting p w.once).1,
)

-- what is taken from those that wait is a position of the set
pub taken_below : (s : List Bool) (waiting rest : List ℕ) (p : ℕ) → Waits s waiting → waiting ≡ rest ++ p ∷ [] → p < length s
taken_below s waiting rest p w e = IsIn-below s p (Waits-pop s rest p (rw e at w)).1

-- and what waits then leaves room for all that are new
pub taken_room : (s : List Bool) (waiting rest : List ℕ) (p n most left : ℕ) → Waits s waiting → waiting ≡ rest ++ p ∷ [] → length s ≡ n → n ≤ most → left ≡ most → length rest + length s ≤ left + member_count s
taken_room s waiting rest p n most left w e size room same = let few = (Waits-pop s rest p (rw e at w)).0.few in omega arith

-- no initial position was put in
pub Seeded-begin : (initials : List Bool) (set : List Bool) → ((p : ℕ) → ¬ IsIn set p) → Seeded initials set [] (positions_in initials)
Seeded-begin initials set none = record {
  initial = λ p h. absurd (none p h);
  back = λ p h. inr (positions_from-have 0 initials p p (omega arith) h);
  to_come = λ p h. let r = positions_from-are 0 initials p h in let e : r.0 ≡ p = let q = r.1 in omega arith in subst (IsIn initials) e r.2;
  all_wait = λ p h. absurd (none p h);
  waits = Waits-none set;
}

module _ (initials s : List Bool) (waiting : List ℕ) (p : ℕ) (left : List ℕ) where
  -- the next one is a position of the set
  pub Seeded-below : length initials ≡ length s → Seeded initials s waiting (p ∷ left) → p < length s
  Seeded-below same a = rw (← same) (IsIn-below initials p (a.to_come p (Contains-first p left)))

  -- it is in the set already
  pub Seeded-known : IsIn s p → Seeded initials s waiting (p ∷ left) → Seeded initials s waiting left
  Seeded-known h a = record {
    initial = a.initial;
    back = λ q k. elim (a.back q k) [ inl i ↦ inl i | inr c ↦ elim (Contains-cons_cases p q left c) [ inl e ↦ inl (subst (IsIn s) e h) | inr l ↦ inr l ] ];
    to_come = λ q k. a.to_come q (Contains-later p q left k);
    all_wait = a.all_wait;
    waits = a.waits;
  }

  -- it is put in, and waits
  pub Seeded-new : p < length s → ¬ IsIn s p → Seeded initials s waiting (p ∷ left) → Seeded initials (set s p true) (waiting ++ p ∷ []) left
  Seeded-new h new a = record {
    initial = λ q k. elim (member-set_cases s p q k) [ inl i ↦ a.initial q i | inr e ↦ subst (IsIn initials) e (a.to_come p (Contains-first p left)) ];
    back = λ q k. elim (a.back q k) [
      | inl i ↦ inl (member-set_keeps s p q h i)
      | inr c ↦ elim (Contains-cons_cases p q left c) [ inl e ↦ inl (subst (IsIn (set s p true)) e (get_or-set_same s p true false h)) | inr l ↦ inr l ]
    ];
    to_come = λ q k. a.to_come q (Contains-later p q left k);
    all_wait = λ q k. elim (member-set_cases s p q k) [ inl i ↦ Contains-append_left waiting (p ∷ []) q (a.all_wait q i) | inr e ↦ subst (Contains (waiting ++ p ∷ [])) e (Contains-push waiting p) ];
    waits = Waits-add s waiting p h new a.waits;
  }

-- The links that leave a position.

-- in an ascending list the first stands once
pub first_once : (n : ℕ) (ns : List ℕ) → IsAscending (n ∷ ns) → ¬ Contains ns n
first_once n ns up h =
    let less = up 0 (suc h.0) (omega arith) (let k = h.1 in omega arith) in
    let same : get_or ns h.0 0 ≡ n = get_or_default ns h.0 0 n h.1 ∙ h.2 in
    omega arith

module _ {E : Type 0} (d : DependencyDirection) (links : List (Link E)) where
  -- what is listed at a position leaves it
  pub row_leaves : (p n : ℕ) → Contains (links_at d links p) n → LeavesOne d links (λ q. q ≡ p) n
  row_leaves p n h =
      let one = row_links d links p h.0 h.1 in
      let same : get_or (links_at d links p) h.0 0 ≡ n = get_or_default (links_at d links p) h.0 0 n h.1 ∙ h.2 in
      (one.link, rw (← same) one.found, one.near)

  -- a link leaves one position
  pub LeavesOne-both : (P Q : ℕ → Type 0) (n : ℕ) → LeavesOne d links P n → LeavesOne d links Q n → LeavesOne d links (λ p. P p × Q p) n
  LeavesOne-both P Q n h k =
      let found_h = h.1 in
      let found_k = k.1 in
      let same : h.0 ≡ k.0 = cc in
      (k.0, found_k, (subst (λ (l : Link E). P (near_end d l)) same h.2, k.2))

module _ {E : Type 0} (d : DependencyDirection) (links : List (Link E)) (initials : List Bool) where
  -- no link was shown: the initial positions are in the set and wait
  pub Searching-begin : (set : List Bool) (waiting : List ℕ) → Seeded initials set waiting [] → Searching d links initials [] set waiting []
  Searching-begin set waiting a = record {
    once = EachAfter-nil _;
    led_to = EachAfter-nil _;
    included = λ p. (
      λ h. inl (a.initial p h),
      λ r. elim r [
        | inl i ↦ elim (a.back p i) [ inl h ↦ h | inr c ↦ absurd (nothing_in p c) ]
        | inr q ↦ absurd (nothing_in (q.0, true) q.2)
      ],
    );
    shown = λ n h. absurd (nothing_in (n, h.0) h.1);
    due = λ n h. inr (inl (h.0, h.1, a.all_wait (near_end d h.0) h.2));
    not_yet = λ n h k. nothing_in (n, k.0) k.1;
    row = λ n h. absurd (nothing_in n h);
    ascending = λ q r h k. absurd (omega arith);
    waits = a.waits;
  }

  module _ (trace : List (ℕ × Bool)) (s : List Bool) where
    -- the next position to follow is taken
    pub Searching-pop : (waiting : List ℕ) (p : ℕ) → Searching d links initials trace s (waiting ++ p ∷ []) [] → Searching d links initials trace s waiting (links_at d links p)
    Searching-pop waiting p a =
        let w = Waits-pop s waiting p a.waits in
        record {
          once = a.once;
          led_to = a.led_to;
          included = a.included;
          shown = a.shown;
          due = λ n h. elim (a.due n h) [
            | inl k ↦ inl k
            | inr k ↦ elim k [
              | inl c ↦ elim (Contains-push_cases waiting p (near_end d c.0) c.2) [ inl v ↦ inr (inl (c.0, c.1, v)) | inr e ↦ inr (inr (row_has d links p n c.0 c.1 (sym e))) ]
              | inr c ↦ absurd (nothing_in n c)
            ]
          ];
          not_yet = λ n h. elim h [
            | inl c ↦ a.not_yet n (inl (c.0, c.1, Contains-append_left waiting (p ∷ []) (near_end d c.0) c.2))
            | inr c ↦ let l = row_leaves d links p n c in a.not_yet n (inl (l.0, l.1, subst (Contains (waiting ++ p ∷ [])) (sym l.2) (Contains-push waiting p)))
          ];
          row = λ n h. let l = row_leaves d links p n h in (l.0, l.1, subst (λ q. IsIn s q × ¬ Contains waiting q) (sym l.2) (w.1, w.2));
          ascending = numbers_ascend (λ l. near_end d l == p) 0 links;
          waits = w.0;
        }

    -- nothing waits
    pub Searching-end : Searching d links initials trace s [] [] → JudgesResolve d links initials trace s
    Searching-end a = record {
      once = a.once;
      shown = λ n. (
        a.shown n,
        λ h. elim (a.due n h) [ inl k ↦ k | inr k ↦ elim k [ inl c ↦ absurd (nothing_in (near_end d c.0) c.2) | inr c ↦ absurd (nothing_in n c) ] ],
      );
      included = a.included;
      led_to = a.led_to;
    }

    IsShown-more : (e : ℕ × Bool) (n : ℕ) → IsShown trace n → IsShown (trace ++ e ∷ []) n
    IsShown-more e n h = (h.0, Contains-append_left trace (e ∷ []) (n, h.0) h.1)

    IsIncluded-more : (e : ℕ × Bool) (p : ℕ) → IsIncluded d links initials trace p → IsIncluded d links initials (trace ++ e ∷ []) p
    IsIncluded-more e p h = elim h [ inl i ↦ inl i | inr q ↦ inr (q.0, q.1, Contains-append_left trace (e ∷ []) (q.0, true) q.2, q.3, q.4) ]

    IsShown-cases : (n : ℕ) (b : Bool) (m : ℕ) → IsShown (trace ++ (n, b) ∷ []) m → IsShown trace m ⊎ (n ≡ m)
    IsShown-cases n b m h = elim (Contains-push_cases trace (n, b) (m, h.0) h.1) [ inl c ↦ inl (h.0, c) | inr e ↦ inr (ap (λ z. z.0) e) ]

    -- The next link is answered b, and the set becomes s' and what waits waiting'.
    module _ (waiting left : List ℕ) (n : ℕ) (link : Link E) (b : Bool) (s' : List Bool) (waiting' : List ℕ)
        (found : slice_get links n ≡ Some link)
        (kept : (p : ℕ) → IsIn s p → IsIn s' p)
        (hits : b ≡ true → IsIn s' (far_end d link))
        (new : (p : ℕ) → IsIn s' p → IsIn s p ⊎ (Contains waiting' p × (b ≡ true) × (far_end d link ≡ p)))
        (wait_kept : (p : ℕ) → Contains waiting p → Contains waiting' p)
        (wait_new : (p : ℕ) → Contains waiting' p → Contains waiting p ⊎ ¬ IsIn s p)
        (waits' : Waits s' waiting') where
      Searching-answered : Searching d links initials trace s waiting (n ∷ left) → Searching d links initials (trace ++ (n, b) ∷ []) s' waiting' left
      Searching-answered a =
          let here : LeavesOne d links (λ p. IsIn s p × ¬ Contains waiting p) n = a.row n (Contains-first n left) in
          let not_new = λ (p : ℕ) (i : IsIn s p) (o : ¬ Contains waiting p) (c : Contains waiting' p). elim (wait_new p c) as (λ _. ⊥) [ inl w ↦ o w | inr x ↦ x i ] in
          record {
            once = EachAfter-push _ trace (n, b) a.once (a.not_yet n (inr (Contains-first n left)));
            led_to = EachAfter-push _ trace (n, b) a.led_to (here.0, here.1, (a.included (near_end d here.0)).0 here.2.0);
            included = λ p. (
              λ h. elim (new p h) [
                | inl i ↦ IsIncluded-more (n, b) p ((a.included p).0 i)
                | inr q ↦ inr (n, link, subst (λ z. Contains (trace ++ (n, b) ∷ []) (n, z)) q.1 (Contains-push trace (n, b)), found, q.2)
              ],
              λ h. elim h [
                | inl i ↦ kept p ((a.included p).1 (inl i))
                | inr q ↦ elim (Contains-push_cases trace (n, b) (q.0, true) q.2) [
                  | inl c ↦ kept p ((a.included p).1 (inr (q.0, q.1, c, q.3, q.4)))
                  | inr e ↦
                      let same_number : n ≡ q.0 = ap (λ z. z.0) e in
                      let found_q = q.3 in
                      let same : link ≡ q.1 = cc in
                      subst (IsIn s') (ap (λ (l : Link E). far_end d l) same ∙ q.4) (hits (ap (λ z. z.1) e))
                ]
              ],
            );
            shown = λ m h. elim (IsShown-cases n b m h) [
              | inl k ↦ let l = a.shown m k in (l.0, l.1, kept (near_end d l.0) l.2)
              | inr e ↦ subst (LeavesOne d links (IsIn s')) e (here.0, here.1, kept (near_end d here.0) here.2.0)
            ];
            due = λ m h. elim (new (near_end d h.0) h.2) [
              | inl i ↦ elim (a.due m (h.0, h.1, i)) [
                | inl k ↦ inl (IsShown-more (n, b) m k)
                | inr k ↦ elim k [
                  | inl c ↦ inr (inl (c.0, c.1, wait_kept (near_end d c.0) c.2))
                  | inr c ↦ elim (Contains-cons_cases n m left c) [ inl e ↦ inl (subst (IsShown (trace ++ (n, b) ∷ [])) e (b, Contains-push trace (n, b))) | inr l ↦ inr (inr l) ]
                ]
              ]
              | inr q ↦ inr (inl (h.0, h.1, q.0))
            ];
            not_yet = λ m h k. elim (IsShown-cases n b m k) [
              | inl k' ↦ elim h [
                | inl c ↦ let l = LeavesOne-both d links (IsIn s) (Contains waiting') m (a.shown m k') c in elim (wait_new (near_end d l.0) l.2.1) [
                  | inl w ↦ a.not_yet m (inl (l.0, l.1, w)) k'
                  | inr x ↦ x l.2.0
                ]
                | inr c ↦ a.not_yet m (inr (Contains-later n m left c)) k'
              ]
              | inr e ↦ elim h [
                | inl c ↦ let l = LeavesOne-both d links (λ p. IsIn s p × ¬ Contains waiting p) (Contains waiting') m (subst (LeavesOne d links (λ p. IsIn s p × ¬ Contains waiting p)) e here) c in not_new (near_end d l.0) l.2.0.0 l.2.0.1 l.2.1
                | inr c ↦ first_once n left a.ascending (subst (Contains left) (sym e) c)
              ]
            ];
            row = λ m h. let l = a.row m (Contains-later n m left h) in (l.0, l.1, (kept (near_end d l.0) l.2.0, not_new (near_end d l.0) l.2.0 l.2.1));
            ascending = λ q r h k. a.ascending (suc q) (suc r) (omega arith) (omega arith);
            waits = waits';
          }

    -- what the answer at the next link makes of the search
    pub Searching-refused : (waiting left : List ℕ) (n : ℕ) → Searching d links initials trace s waiting (n ∷ left) → Searching d links initials (trace ++ (n, false) ∷ []) s waiting left
    Searching-refused waiting left n a =
        let l = a.row n (Contains-first n left) in
        Searching-answered waiting left n l.0 false s waiting l.1 (λ p h. h) (λ e. absurd (cc)) (λ p h. inl h) (λ p h. h) (λ p h. inl h) a.waits a

    module _ (waiting left : List ℕ) (n : ℕ) (link : Link E) (found : slice_get links n ≡ Some link) where
      -- the next link was accepted, and leads to a position in the set
      pub Searching-known : IsIn s (far_end d link) → Searching d links initials trace s waiting (n ∷ left) → Searching d links initials (trace ++ (n, true) ∷ []) s waiting left
      Searching-known i a = Searching-answered waiting left n link true s waiting found (λ p h. h) (λ e. i) (λ p h. inl h) (λ p h. h) (λ p h. inl h) a.waits a

      -- the next link was accepted, and leads to a new position
      pub Searching-new : far_end d link < length s → ¬ IsIn s (far_end d link) → Searching d links initials trace s waiting (n ∷ left) → Searching d links initials (trace ++ (n, true) ∷ []) (set s (far_end d link) true) (waiting ++ far_end d link ∷ []) left
      Searching-new below lacks a = Searching-answered waiting left n link true (set s (far_end d link) true) (waiting ++ far_end d link ∷ []) found
          (λ p h. member-set_keeps s (far_end d link) p below h)
          (λ e. get_or-set_same s (far_end d link) true false below)
          (λ p h. elim (member-set_cases s (far_end d link) p h) [ inl i ↦ inl i | inr e ↦ inr (subst (Contains (waiting ++ far_end d link ∷ [])) e (Contains-push waiting (far_end d link)), refl, e) ])
          (λ p h. Contains-append_left waiting (far_end d link ∷ []) p h)
          (λ p h. elim (Contains-push_cases waiting (far_end d link) p h) [ inl c ↦ inl c | inr e ↦ inr (subst (λ z. ¬ IsIn s z) e lacks) ])
          (Waits-add s waiting (far_end d link) below lacks a.waits) a

-- What the links shown so far make of a search, where row are all that leave the position.
pub Shows-none : {E : Type 0} (d : DependencyDirection) (links : List (Link E)) (s : List Bool) (waiting row : List ℕ) → Shows d links [] s waiting row s waiting row
Shows-none d links s waiting row = record { after = λ initials trace h. rw append-nil h }

module _ {E : Type 0} (d : DependencyDirection) (links : List (Link E)) (shown : List (ℕ × Bool)) (s : List Bool) (waiting row : List ℕ) where
  module _ (s' : List Bool) (waiting' left : List ℕ) (n : ℕ) where
    -- one more link was shown, and refused
    pub Shows-refused : Shows d links shown s waiting row s' waiting' (n ∷ left) → Shows d links (shown ++ (n, false) ∷ []) s waiting row s' waiting' left
    Shows-refused h = record {
      after = λ initials trace k. subst (λ all. Searching d links initials all s' waiting' left) (append_assoc trace shown ((n, false) ∷ []))
          (Searching-refused d links initials (trace ++ shown) s' waiting' left n (h.after initials trace k));
    }

    module _ (link : Link E) (found : slice_get links n ≡ Some link) where
      -- the next link was accepted, and leads to a position in the set
      pub Shows-known : IsIn s' (far_end d link) → Shows d links shown s waiting row s' waiting' (n ∷ left) → Shows d links (shown ++ (n, true) ∷ []) s waiting row s' waiting' left
      Shows-known i h = record {
        after = λ initials trace k. subst (λ all. Searching d links initials all s' waiting' left) (append_assoc trace shown ((n, true) ∷ []))
            (Searching-known d links initials (trace ++ shown) s' waiting' left n link found i (h.after initials trace k));
      }

      -- the next link was accepted, and leads to a new position
      pub Shows-new : far_end d link < length s' → ¬ IsIn s' (far_end d link) → Shows d links shown s waiting row s' waiting' (n ∷ left) → Shows d links (shown ++ (n, true) ∷ []) s waiting row (set s' (far_end d link) true) (waiting' ++ far_end d link ∷ []) left
      Shows-new below lacks h = record {
        after = λ initials trace k. subst (λ all. Searching d links initials all (set s' (far_end d link) true) (waiting' ++ far_end d link ∷ []) left) (append_assoc trace shown ((n, true) ∷ []))
            (Searching-new d links initials (trace ++ shown) s' waiting' left n link found below lacks (h.after initials trace k));
      }

-- a visitor that a resolve may ask may be shown the next link of one under way
pub MayGoOn-along : {E V : Type 0} (may_call : V → ℕ → Type 0) (calls : V → ℕ → Bool → V → Type 0) (d : DependencyDirection) (links : List (Link E)) (initials : List Bool) (trace : List (ℕ × Bool)) (s : List Bool) (waiting left : List ℕ) (first state : V)
    → IsCallable may_call calls d links initials first → Searching d links initials trace s waiting left → Visits calls first trace state → MayGoOn may_call calls d links s waiting left state
MayGoOn-along may_call calls d links initials trace s waiting left first state callable searching steps = record {
  at = λ shown now n s' waiting' left' shows due more.
      let after = shows.after initials trace searching in
      let l = after.row n due in
      callable.at (trace ++ shown) now n after.once after.led_to
      (FoldsTo-append _ first trace state shown now steps more)
      (l.0, l.1, (after.included _).0 l.2.0)
      (after.not_yet n (inr due))
      (slice_get_within links n l.0 l.1);
}

-- what waits and what is not in the set, after a position is put in
pub balance-added : (s : List Bool) (waiting : List ℕ) (p a b : ℕ) → p < length s → ¬ IsIn s p → length waiting + a ≡ b + member_count s → length (waiting ++ p ∷ []) + a ≡ b + member_count (set s p true)
balance-added s waiting p a b h new e = let k = member_count-set s p h (false_from_ne_true (has s p) new) in simp length-append (omega arith)

-- the far end of a link is a position of the graph
pub far_end_below : {E : Type 0} (d : DependencyDirection) (links : List (Link E)) (count n : ℕ) (link : Link E) → slice_get links n ≡ Some link → All (EndsBelow count) links → far_end d link < count
far_end_below {E} d links count n link found ends =
    let both : EndsBelow count link = subst (λ (l : Link E). EndsBelow count l) (get_or_from_slice_get links n link link found) (ends n link (slice_get_within links n link found)) in
    elim d as (λ z. far_end z link < count) [ Forward ↦ both.1 | Reverse ↦ both.0 ]
