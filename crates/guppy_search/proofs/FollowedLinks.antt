-- What following links adds to a set, and to the positions that wait.
use Rattle.std.proofs.Common.{◌≡◌, ◌⊎◌, ℕ, ◌+◌, ◌<◌, Bool, true, false, inl, inr, List, [], ◌∷◌, ◌++◌, length, set, ap, subst, ◌∙◌, arith, Some}
use Rattle.std.specs.Prelude.{slice_get, Contains}
use Rattle.std.proofs.lemmas.List.{get_or-set_same}
use Rattle.std.proofs.lemmas.List.Elements.{Contains-push, Contains-append_left, Contains-append_cases, Contains-push_cases}
use Rattle.guppy_search.specs.declared.ix.direction.DependencyDirection.{DependencyDirection}
use Rattle.guppy_search.specs.declared.graph_core.link.Link.{Link}
use Rattle.guppy_search.specs.Links.{far_end, IsLedTo}
use Rattle.guppy_search.specs.IxSet.{IsIn, member_count, positions_from, positions_in}
use Rattle.guppy_search.specs.Resolve.{EachAfter}
use Rattle.guppy_search.specs.Buffered.{Adds}
use Rattle.guppy_search.proofs.Lists.{nothing_in, EachAfter-nil, EachAfter-push, EachAfter-cons, EachAfter-append, EachAfter-with, Contains-cons_cases}
use Rattle.guppy_search.proofs.Members.{member-set_cases, member-set_keeps}
use Rattle.guppy_search.proofs.Positions.{positions_from-are, length-positions_from}
use Rattle.guppy_search.specs.Searching.{Waits}

module _ {E : Type 0} (d : DependencyDirection) (links : List (Link E)) where
  -- no link was followed
  pub Adds-none : (s : List Bool) → Adds d links [] s [] s
  Adds-none s = record {
    once = EachAfter-nil _;
    lacked = λ p c. absurd (nothing_in p c);
    led_to = λ p c. absurd (nothing_in p c);
    followed = λ p h. absurd (nothing_in h.0 h.2);
    after_has = λ p. (λ h. inl h, λ h. elim h [ inl i ↦ i | inr c ↦ absurd (nothing_in p c) ]);
  }

  -- one more link
  module _ (numbers : List ℕ) (s : List Bool) (added : List ℕ) (s' : List Bool) (n : ℕ) (link : Link E) (found : slice_get links n ≡ Some link) where
    IsLedTo-more : (p : ℕ) → IsLedTo d links numbers p → IsLedTo d links (numbers ++ n ∷ []) p
    IsLedTo-more p h = (h.0, h.1, Contains-append_left numbers (n ∷ []) h.0 h.2, h.3, h.4)

    IsLedTo-cases : (p : ℕ) → IsLedTo d links (numbers ++ n ∷ []) p → IsLedTo d links numbers p ⊎ (far_end d link ≡ p)
    IsLedTo-cases p h = elim (Contains-push_cases numbers n h.0 h.2) [
      | inl c ↦ inl (h.0, h.1, c, h.3, h.4)
      | inr e ↦
          let found_h = h.3 in
          let same : link ≡ h.1 = cc in
          inr (ap (λ (l : Link E). far_end d l) same ∙ h.4)
    ]

    -- one more link was followed, to a position that is in the set
    pub Adds-known : IsIn s' (far_end d link) → Adds d links numbers s added s' → Adds d links (numbers ++ n ∷ []) s added s'
    Adds-known i a = record {
      once = a.once;
      lacked = a.lacked;
      led_to = λ p c. IsLedTo-more p (a.led_to p c);
      followed = λ p h. elim (IsLedTo-cases p h) [ inl k ↦ a.followed p k | inr e ↦ subst (IsIn s') e i ];
      after_has = a.after_has;
    }

    -- one more link was followed, to a new position
    pub Adds-new : far_end d link < length s' → ¬ IsIn s' (far_end d link) → Adds d links numbers s added s' → Adds d links (numbers ++ n ∷ []) s (added ++ far_end d link ∷ []) (set s' (far_end d link) true)
    Adds-new below lacks a =
        let far = far_end d link in
        record {
          once = EachAfter-push _ added far a.once (λ c. lacks ((a.after_has far).1 (inr c)));
          lacked = λ p c. elim (Contains-push_cases added far p c) [
            | inl k ↦ a.lacked p k
            | inr e ↦ λ i. lacks ((a.after_has far).1 (inl (rw e i)))
          ];
          led_to = λ p c. elim (Contains-push_cases added far p c) [
            | inl k ↦ IsLedTo-more p (a.led_to p k)
            | inr e ↦ (n, link, Contains-push numbers n, found, e)
          ];
          followed = λ p h. elim (IsLedTo-cases p h) [
            | inl k ↦ member-set_keeps s' far p below (a.followed p k)
            | inr e ↦ subst (IsIn (set s' far true)) e (get_or-set_same s' far true false below)
          ];
          after_has = λ p. (
            λ h. elim (member-set_cases s' far p h) [
              | inl i ↦ elim ((a.after_has p).0 i) [ inl k ↦ inl k | inr c ↦ inr (Contains-append_left added (far ∷ []) p c) ]
              | inr e ↦ inr (subst (Contains (added ++ far ∷ [])) e (Contains-push added far))
            ],
            λ h. elim h [
              | inl i ↦ member-set_keeps s' far p below ((a.after_has p).1 (inl i))
              | inr c ↦ elim (Contains-push_cases added far p c) [
                | inl k ↦ member-set_keeps s' far p below ((a.after_has p).1 (inr k))
                | inr e ↦ subst (IsIn (set s' far true)) e (get_or-set_same s' far true false below)
              ]
            ],
          );
        }

  -- those that are added wait too
  pub Waits-adds : (numbers : List ℕ) (s : List Bool) (waiting added : List ℕ) (s' : List Bool) → Adds d links numbers s added s' → length (waiting ++ added) + member_count s ≡ length waiting + member_count s' → Waits s waiting → Waits s' (waiting ++ added)
  Waits-adds numbers s waiting added s' a balance w = record {
    in_set = λ p h. elim (Contains-append_cases waiting added p h) [
      | inl c ↦ (a.after_has p).1 (inl (w.in_set p c))
      | inr c ↦ (a.after_has p).1 (inr c)
    ];
    once = EachAfter-append _ waiting added w.once (EachAfter-with _ _ added a.once (λ before p c new h. elim (Contains-append_cases waiting before p h) as (λ _. ⊥) [
      | inl k ↦ a.lacked p c (w.in_set p k)
      | inr k ↦ new k
    ]));
    few = let few = w.few in omega arith;
  }

positions_from-once : (i : ℕ) (s : List Bool) → EachAfter (λ before p. ¬ Contains before p) (positions_from i s)
positions_from-once i [] = EachAfter-nil _
positions_from-once i (true ∷ s) =
    EachAfter-cons _ i (positions_from (i + 1) s) (nothing_in i)
    (EachAfter-with _ _ (positions_from (i + 1) s) (positions_from-once (i + 1) s) (λ before p c new h. elim (Contains-cons_cases i p before h) as (λ _. ⊥) [
      | inl e ↦ let r = positions_from-are (i + 1) s p c in let later = r.1 in omega arith
      | inr k ↦ new k
    ]))
positions_from-once i (false ∷ s) = positions_from-once (i + 1) s

-- all positions of a set wait
pub Waits-all : (s : List Bool) → Waits s (positions_in s)
Waits-all s = record {
  in_set = λ p h. let r = positions_from-are 0 s p h in let e : r.0 ≡ p = let q = r.1 in omega arith in subst (IsIn s) e r.2;
  once = positions_from-once 0 s;
  few = omega (arith, length-positions_from 0 s);
}
