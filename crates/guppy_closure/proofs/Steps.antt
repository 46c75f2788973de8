-- Each step of closing a set under clauses.
use Rattle.std.proofs.Common.{◌≡◌, ◌⊎◌, ⊎_elim, ℕ, ◌+◌, ◌-◌, ◌*◌, ◌/◌, ◌<◌, ◌≤◌, ◌^◌, Bool, true, false, List, [], ◌∷◌, ◌++◌, length, get_or, drop, Some, inl, inr, refl, sym, ap, ◌∙◌, subst, arith, length-append, replicate}
use Rattle.std.specs.Prelude.{◌↔◌, slice_get, Contains}
use Rattle.std.proofs.Math.ListN.{set, length-set}
use Rattle.std.proofs.lemmas.Bool.{false_from_ne_true, cases_eq}
use Rattle.std.proofs.lemmas.List.{get_or-set_same, drop-append-le, drop_more, drop_all}
use Rattle.guppy_search.specs.IxSet.{has, IsIn}
use Rattle.guppy_search.proofs.Lists.{nothing_in, Contains-cons_cases, EachAfter-nil, EachAfter-push}
use Rattle.guppy_search.proofs.Members.{has-replicate, IsIn-below, member-set_cases, member-set_keeps, member_count-set, member_count-replicate, member_count-le-length, member_count-lt-length}
use Rattle.guppy_closure.specs.declared.clause.Clause.{Clause}
use Rattle.guppy_closure.specs.Clauses.{InBody, Holds, IsMet}
use Rattle.guppy_closure.specs.Derived.{IsDerived, Follows, IsFound}
use Rattle.guppy_closure.specs.Places.{slots, Leads, IsRow}
use Rattle.guppy_closure.specs.Counts.{given_count, held_count}
use Rattle.guppy_closure.specs.Closing.{LooksAt, Closing, IsNone, HasPlace, Following}
use Rattle.guppy_closure.proofs.MetBodies.{Holds-least, body_cases, same_clause}
use Rattle.guppy_closure.proofs.Derivations.{HasClause-left, HasClause-push, HasClause-push_cases, HasClause-cons_cases, derived_holds}
use Rattle.guppy_closure.proofs.Linked.{length-slots, slots_at}
use Rattle.guppy_closure.proofs.Counting.{held_count-set, held_count-none, head_of-found, owed-push, looks_few}

-- what a look leaves the same
pub looks_size : (c : Clause ℕ) (n : ℕ) (s : List Bool) (w : List ℕ) (s' : List Bool) (w' : List ℕ) → LooksAt c n s w s' w' → length s' ≡ length s
looks_size c n s w s' w' h = elim h [ inl k ↦ ap length k.1 | inr k ↦ ap length k.2 ∙ length-set s c.head true ]

module _ (clauses : List (Clause ℕ)) where
  -- nothing is in the set, and each clause is left
  pub closing_none : (count : ℕ) (IsLeft : ℕ → Type 0) → ((n : ℕ) → IsLeft n) → (spent : ℕ) → spent ≡ given_count clauses → Closing clauses (replicate count false) [] 0 spent IsLeft
  closing_none count IsLeft left spent same = record {
    order = EachAfter-nil _;
    derived = λ f. (λ h. absurd (let e : true ≡ false = sym h ∙ has-replicate count f in cc), λ d. absurd (nothing_in d.0 d.2));
    due = λ n c found met. inr (inl (left n));
    counted = sym (member_count-replicate count);
    reached = omega arith;
    looks = let none = held_count-none count (slots clauses) in omega arith;
  }

  module _ (s : List Bool) (w : List ℕ) (next spent : ℕ) (IsLeft : ℕ → Type 0) (a : Closing clauses s w next spent IsLeft) where
    -- while a fact is not in the set, there is room
    pub closing_room : (f count most : ℕ) → f < count → length s ≡ count → count ≤ most → ¬ IsIn s f → length w < most
    closing_room f count most low size few new =
        let below : f < length s = omega arith in
        let lacks = member_count-lt-length s f below (false_from_ne_true (has s f) new) in
        let counted = a.counted in
        omega arith

    -- no more looks were asked for than two a clause
    pub spent_few : spent ≤ 2 * length clauses
    spent_few = let looks = a.looks in let few = looks_few s clauses in omega arith

    -- no more clauses are found than there are facts
    pub found_few : length w ≤ length s
    found_few = let counted = a.counted in let few = member_count-le-length s in omega arith

    module _ (IsLeft' : ℕ → Type 0) where
      -- fewer clauses are left, of which each other one had its head there, or one of its body was still to be followed
      closing_less : ((m : ℕ) (d : Clause ℕ) → slice_get clauses m ≡ Some d → IsMet d s → IsLeft m → IsIn s d.head ⊎ (IsLeft' m ⊎ ((b : ℕ) × InBody d b × IsDerived clauses (drop next w) b)))
          → (spent' : ℕ) → spent' ≡ spent → Closing clauses s w next spent' IsLeft'
      closing_less left spent' same = record {
        order = a.order;
        derived = a.derived;
        due = λ m d found met. elim (a.due m d found met) [
          | inl i ↦ inl i
          | inr l ↦ elim l [ inl here ↦ left m d found met here | inr wait ↦ inr (inr wait) ]
        ];
        counted = a.counted;
        reached = a.reached;
        looks = rw same a.looks;
      }

      -- none is left
      pub closing_done : ((m : ℕ) (d : Clause ℕ) → slice_get clauses m ≡ Some d → ¬ IsLeft m) → (spent' : ℕ) → spent' ≡ spent → Closing clauses s w next spent' IsLeft'
      closing_done none = closing_less (λ m d found met here. absurd (none m d found here))

      -- clause n is no longer left: one of its body is still to be followed, where all of it is there
      pub closing_skipped : (n : ℕ) (c : Clause ℕ) → slice_get clauses n ≡ Some c → ((m : ℕ) → IsLeft m → (m ≡ n) ⊎ IsLeft' m) → ((b : ℕ) × InBody c b) → ((f : ℕ) → IsIn s f → IsDerived clauses (drop next w) f)
          → (spent' : ℕ) → spent' ≡ spent → Closing clauses s w next spent' IsLeft'
      closing_skipped n c found step one all = closing_less (λ m d found' met here. elim (step m here) [
        | inl e ↦
            let same : d ≡ c = same_clause clauses n m c d found found' e in
            let in_body : InBody d one.0 = subst (λ (z : Clause ℕ). InBody z one.0) (sym same) one.1 in
            inr (inr (one.0, in_body, all one.0 (met one.0 in_body)))
        | inr h ↦ inr (inl h)
      ])

      -- clause n was looked at
      pub closing_looked : (n : ℕ) (c : Clause ℕ) (s' : List Bool) (w' : List ℕ) → slice_get clauses n ≡ Some c → ((m : ℕ) → IsLeft m → (m ≡ n) ⊎ IsLeft' m) → c.head < length s → LooksAt c n s w s' w'
          → (spent' : ℕ) → spent' ≡ spent → Closing clauses s' w' next spent' IsLeft'
      closing_looked n c s' w' found step below looks spent' same = elim looks [
        | inl k ↦ rw (k.1, k.2) (closing_less
            (λ m d found' met here. elim (step m here) [
              | inl e ↦
                  let one : d ≡ c = same_clause clauses n m c d found found' e in
                  inl (subst (λ (z : Clause ℕ). IsIn s z.head) (sym one) (k.0 (subst (λ (z : Clause ℕ). IsMet z s) one met)))
              | inr h ↦ inr (inl h)
            ])
            spent' same)
        | inr k ↦
            let lacks = false_from_ne_true (has s c.head) k.1 in
            let in_now : IsIn (set s c.head true) c.head = get_or-set_same s c.head true false below in
            let later : drop next (w ++ n ∷ []) ≡ drop next w ++ n ∷ [] = drop-append-le next w (n ∷ []) a.reached in
            rw (k.2, k.3) (record {
              order = EachAfter-push (Follows clauses) w n a.order (record {
                clause = c;
                found = found;
                body = λ b i. (a.derived b).0 (k.0 b i);
                new = λ d. k.1 ((a.derived c.head).1 d);
              });
              derived = λ f. (
                λ h. elim (member-set_cases s c.head f h) [
                  | inl i ↦ HasClause-left clauses (λ d. d.head ≡ f) w (n ∷ []) ((a.derived f).0 i)
                  | inr e ↦ HasClause-push clauses (λ d. d.head ≡ f) w n c found e
                ],
                λ d. elim (HasClause-push_cases clauses (λ d. d.head ≡ f) w n c found d) as (λ _. IsIn (set s c.head true) f) [
                  | inl before ↦ member-set_keeps s c.head f below ((a.derived f).1 before)
                  | inr e ↦ subst (IsIn (set s c.head true)) e in_now
                ],
              );
              due = λ m d found' met. elim (body_cases d (IsIn s) (λ b. c.head ≡ b) (λ b i. member-set_cases s c.head b (met b i))) [
                | inl met_before ↦ elim (a.due m d found' met_before) [
                  | inl i ↦ inl (member-set_keeps s c.head d.head below i)
                  | inr l ↦ elim l [
                    | inl here ↦ elim (step m here) [
                      | inl e ↦
                          let one : d ≡ c = same_clause clauses n m c d found found' e in
                          inl (subst (λ (z : Clause ℕ). IsIn (set s c.head true) z.head) (sym one) in_now)
                      | inr h ↦ inr (inl h)
                    ]
                    | inr wait ↦ inr (inr (wait.0, wait.1, rw later (HasClause-left clauses (λ d. d.head ≡ wait.0) (drop next w) (n ∷ []) wait.2)))
                  ]
                ]
                | inr new ↦ inr (inr (new.0, new.1, rw later (HasClause-push clauses (λ d. d.head ≡ new.0) (drop next w) n c found new.2)))
              ];
              counted = let more = member_count-set s c.head below lacks in let counted = a.counted in simp length-append (omega arith);
              reached = let reached = a.reached in simp length-append (omega arith);
              looks =
                  let before = a.looks in
                  let held = held_count-set s c.head below lacks (slots clauses) in
                  let more = owed-push clauses (slots clauses) (drop next w) n in
                  let head = head_of-found clauses n c found in
                  let more' = rw head at more in
                  rw later (omega arith);
            })
      ]

  -- the fact found at the place next is followed, whose row is left
  pub closing_followed : (s : List Bool) (w earlier : List ℕ) (next spent mark : ℕ) (c : Clause ℕ) → next < length w → slice_get clauses (get_or w next 0) ≡ Some c → IsRow (slots clauses) earlier c.head mark
      → Closing clauses s w next spent IsNone → Following clauses s w earlier (next + 1) spent mark
  closing_followed s w earlier next spent mark c inside found row a =
      let first : drop next w ≡ get_or w next 0 ∷ drop (next + 1) w = drop_more w next 0 inside in
      record {
        left = row.places;
        leads = row.leads;
        closing = record {
          order = a.order;
          derived = a.derived;
          due = λ n d found' met. elim (a.due n d found' met) [
            | inl i ↦ inl i
            | inr l ↦ elim l [
              | inl none ↦ absurd none
              | inr wait ↦ elim (HasClause-cons_cases clauses (λ c. c.head ≡ wait.0) (get_or w next 0) (drop (next + 1) w) c found (subst (λ ns. IsDerived clauses ns wait.0) first wait.2)) [
                | inl e ↦
                    let at = slots_at clauses n d wait.0 found' wait.1 in
                    let place : Contains row.places at.0 = row.all at.0 (subst (λ f. slice_get (slots clauses) at.0 ≡ Some (Some f)) (sym e) at.1) in
                    inr (inl (at.0, place, at.2))
                | inr later ↦ inr (inr (wait.0, wait.1, later))
              ]
            ]
          ];
          counted = a.counted;
          reached = omega arith;
          looks =
              let before = rw first at a.looks in
              let head = head_of-found clauses (get_or w next 0) c found in
              let before' = rw head at before in
              let count = row.count in
              omega arith;
        };
      }

  -- nothing is to be followed: what is in the set is what holds
  pub closing_end : (s : List Bool) (w : List ℕ) (next spent : ℕ) → length w ≤ next → Closing clauses s w next spent IsNone → (f : ℕ) → IsIn s f ↔ Holds clauses f
  closing_end s w next spent over a f = (
    λ i. derived_holds clauses w a.order f ((a.derived f).0 i),
    Holds-least clauses (IsIn s) (λ n c found met. elim (a.due n c found met) as (λ _. IsIn s c.head) [
      | inl i ↦ i
      | inr l ↦ elim l as (λ _. IsIn s c.head) [
        | inl none ↦ absurd none
        | inr wait ↦ absurd (let d : IsDerived clauses [] wait.0 = subst (λ ns. IsDerived clauses ns wait.0) (drop_all next w over) wait.2 in nothing_in d.0 d.2)
      ]
    ]) f,
  )

  -- and all looks were taken
  pub spent_end : (s : List Bool) (w : List ℕ) (next spent : ℕ) → length w ≤ next → Closing clauses s w next spent IsNone → spent ≡ given_count clauses + held_count s (slots clauses)
  spent_end s w next spent over a = let looks = rw (drop_all next w over) at a.looks in omega arith

  pub closing_found : (s : List Bool) (w : List ℕ) (next spent : ℕ) (IsLeft : ℕ → Type 0) → length s < 2 ^ 32 → Closing clauses s w next spent IsLeft → IsFound clauses s w
  closing_found s w next spent IsLeft few a = record {
    order = a.order;
    derived = a.derived;
    small = λ f i. let below = IsIn-below s f i in omega arith;
  }

-- the next clause in order is the only one that is no longer left
pub next_in_order : (k m : ℕ) → k ≤ m → (m ≡ k) ⊎ (k + 1 ≤ m)
next_in_order k m h = ⊎_elim (λ e. inl e) (λ other. inr (omega arith)) (cases_eq m k)

-- the same in a row
pub next_in_row : (p : ℕ) (places : List ℕ) (m : ℕ) → HasPlace (p ∷ places) m → (m ≡ p / 2) ⊎ HasPlace places m
next_in_row p places m h = elim (Contains-cons_cases p h.0 places h.1) [
  | inl e ↦ inl (sym h.2 ∙ ap (λ (q : ℕ). q / 2) (sym e))
  | inr later ↦ inr (h.0, later, h.2)
]

-- the place that a mark tells, and those that this leads to
pub record LeadsOn (earlier : List ℕ) (mark : ℕ) (left : List ℕ) : Type 0 where
  pub rest : List ℕ
  pub left_is : left ≡ (mark - 1) ∷ rest
  pub inside : mark - 1 < length earlier
  pub low : get_or earlier (mark - 1) 0 < mark
  pub leads : Leads earlier (get_or earlier (mark - 1) 0) rest

pub leads_on : (earlier : List ℕ) (mark : ℕ) (left : List ℕ) → 0 < mark → Leads earlier mark left → LeadsOn earlier mark left
leads_on earlier mark [] some h = absurd (omega arith)
leads_on earlier mark (p ∷ rest) some h =
    let at = h.0 in
    let inside = h.1 in
    let low = h.2 in
    let same : mark - 1 ≡ p = omega arith in
    record {
      rest = rest;
      left_is = rw same refl;
      inside = rw same inside;
      low = rw same (omega arith);
      leads = rw same h.3;
    }

module _ (clauses : List (Clause ℕ)) (s : List Bool) (w earlier : List ℕ) (next looks mark : ℕ) (f : Following clauses s w earlier next looks mark) where
  -- the clause of the mark was looked at
  pub following_looked : 0 < mark → (c : Clause ℕ) (s' : List Bool) (w' : List ℕ) → slice_get clauses ((mark - 1) / 2) ≡ Some c → c.head < length s → LooksAt c ((mark - 1) / 2) s w s' w'
      → Following clauses s' w' earlier next (looks + 1) (get_or earlier (mark - 1) 0)
  following_looked some c s' w' found below looked =
      let on = leads_on earlier mark f.left some f.leads in
      let length_is = ap (λ (ns : List ℕ). length ns) on.left_is in
      record {
        left = on.rest;
        leads = on.leads;
        closing = closing_looked clauses s w next (looks + length f.left) (HasPlace f.left) f.closing (HasPlace on.rest)
            ((mark - 1) / 2) c s' w' found
            (λ m h. next_in_row (mark - 1) on.rest m (subst (λ ns. HasPlace ns m) on.left_is h))
            below looked (looks + 1 + length on.rest) (omega arith);
      }

  -- a clause that is left is asked for, and not yet looked at
  pub following_few : 0 < mark → looks + 1 ≤ 2 * length clauses
  following_few some =
      let on = leads_on earlier mark f.left some f.leads in
      let length_is = ap (λ (ns : List ℕ). length ns) on.left_is in
      let few = spent_few clauses s w next (looks + length f.left) (HasPlace f.left) f.closing in
      omega arith

  -- the place of the mark is that of a clause
  pub following_inside : 0 < mark → length earlier ≡ length (slots clauses) → (mark - 1) / 2 < length clauses
  following_inside some size =
      let on = leads_on earlier mark f.left some f.leads in
      let inside = on.inside in
      let slots_are = length-slots clauses in
      omega arith

  -- no mark is left
  pub following_end : mark ≡ 0 → Closing clauses s w next looks IsNone
  following_end none = ends f.left f.leads f.closing
    where
      ends : (left : List ℕ) → Leads earlier mark left → Closing clauses s w next (looks + length left) (HasPlace left) → Closing clauses s w next looks IsNone
      ends [] h a =
          let all : looks + 0 ≡ looks = omega arith in
          closing_done clauses s w next (looks + 0) (HasPlace []) a IsNone (λ m d found here. nothing_in here.0 here.1) looks (sym all)
      ends (p ∷ rest) h a = absurd (let at = h.0 in omega arith)
