-- The clauses that one fact needs, of those that were found.
use Rattle.std.proofs.Common.{◌≡◌, ◌⊎◌, ℕ, ◌+◌, ◌<◌, ◌^◌, Bool, true, false, List, [], ◌∷◌, ◌++◌, length, get_or, take, drop, replicate, Result, Ok, Err, Some, inl, inr, refl, sym, ap, ◌∙◌, subst, append_assoc, arith}
use Rattle.std.specs.Prelude.{◌↔◌, IfOk, slice_get, Contains}
use Rattle.std.proofs.Math.ListN.{set}
use Rattle.std.proofs.lemmas.List.{take-append-drop, take_more, drop_more, drop_all}
use Rattle.std.proofs.lemmas.List.Elements.{Contains-get_or, Contains-push, Contains-append_left, Contains-push_cases}
use Rattle.std.proofs.lemmas.Option.{slice_get-get_or}
use Rattle.guppy_search.specs.IxSet.{IsIn}
use Rattle.guppy_search.proofs.Lists.{nothing_in, Contains-first, Contains-later, Contains-cons_cases, EachAfter-push}
use Rattle.guppy_search.proofs.Members.{IsIn-below, only_member, one_member}
use Rattle.guppy_closure.specs.declared.clause.Clause.{Clause}
use Rattle.guppy_closure.specs.Clauses.{InBody, IsMet}
use Rattle.guppy_closure.specs.Derived.{HasClause, IsDerived, Follows, IsDerivation, EndsWith, AreNeeded, IsFound}
use Rattle.guppy_closure.specs.Needs.{HasBodies, Needs, AreSteps}
use Rattle.guppy_closure.proofs.MetBodies.{spare, same_clause}
use Rattle.guppy_closure.proofs.Derivations.{HasClause-left, member_split, not_before, numbered}

-- what follows from two clauses on one answer
pub ok_both : {T E : Type 0} (r : Result T E) (P Q R : T → Type 0) → ((x : T) → P x → Q x → R x) → IfOk r P → IfOk r Q → IfOk r R
ok_both (Ok x) P Q R follows p q = follows x p q
ok_both (Err e) P Q R follows p q = tt

-- the clause n, which is c, was found at the place p
pub record FoundAt (clauses : List (Clause ℕ)) (found : List ℕ) (p n : ℕ) (c : Clause ℕ) : Type 0 where
  pub inside : p < length found
  pub number : n ≡ get_or found p 0
  pub clause : slice_get clauses n ≡ Some c

module _ (clauses : List (Clause ℕ)) (facts : List Bool) (found : List ℕ) (all : IsFound clauses facts found) where
  -- what was found at a place is a clause
  pub number_low : (p n : ℕ) → p < length found → n ≡ get_or found p 0 → n < length clauses
  number_low p n inside number = numbered clauses found all.order n (subst (Contains found) (sym number) (Contains-get_or found p 0 inside))

  pub found_at : (p n : ℕ) → p < length found → n ≡ get_or found p 0 → FoundAt clauses found p n (get_or clauses n spare)
  found_at p n inside number = record {
    inside = inside;
    number = number;
    clause = slice_get-get_or clauses n spare (number_low p n inside number);
  }

  -- the clause at the place follows from those before it
  follows_at : (p n : ℕ) (c : Clause ℕ) → FoundAt clauses found p n c → Follows clauses (take p found) n
  follows_at p n c at =
      let whole : found ≡ take p found ++ get_or found p 0 ∷ drop (p + 1) found = sym (take-append-drop p found) ∙ ap (λ ns. take p found ++ ns) (drop_more found p 0 at.inside) in
      subst (Follows clauses (take p found)) (sym at.number) (all.order (take p found) (get_or found p 0) (drop (p + 1) found) whole)

  -- its body is derived before
  body_before : (p n : ℕ) (c : Clause ℕ) → FoundAt clauses found p n c → (b : ℕ) → InBody c b → IsDerived clauses (take p found) b
  body_before p n c at b i =
      let follows = follows_at p n c at in
      let same : c ≡ follows.clause = same_clause clauses n n follows.clause c follows.found at.clause refl in
      follows.body b (subst (λ (z : Clause ℕ). InBody z b) same i)

  -- so that it is among the facts
  pub body_in : (p n : ℕ) (c : Clause ℕ) → FoundAt clauses found p n c → (b : ℕ) → InBody c b → IsIn facts b
  body_in p n c at b i =
      (all.derived b).1 (subst (λ ns. IsDerived clauses ns b) (take-append-drop p found) (HasClause-left clauses (λ d. d.head ≡ b) (take p found) (drop p found) (body_before p n c at b i)))

  -- and below the count
  pub body_low : (count p n : ℕ) (c : Clause ℕ) → count ≡ length facts → FoundAt clauses found p n c → (b : ℕ) → InBody c b → (b < count) × (b < 2 ^ 32)
  body_low count p n c same at b i =
      let there = body_in p n c at b i in
      let low = IsIn-below facts b there in
      (omega arith, all.small b there)

  -- the head of a clause that was found is among the facts
  pub head_low : (count p n : ℕ) (c : Clause ℕ) → count ≡ length facts → FoundAt clauses found p n c → c.head < count
  head_low count p n c same at =
      let member : Contains found n = subst (Contains found) (sym at.number) (Contains-get_or found p 0 at.inside) in
      let low = IsIn-below facts c.head ((all.derived c.head).1 (n, c, member, at.clause, refl)) in
      omega arith

  module _ (f : ℕ) where
    -- the fact alone, where no clause was gone through
    pub needs_first : IsIn facts f → Needs clauses (drop (length found) found) f facts (set (replicate (length facts) false) f true)
    needs_first there =
        let low = IsIn-below facts f there in
        let none : drop (length found) found ≡ [] = drop_all (length found) found (omega arith) in
        rw none (record {
          fact = one_member (length facts) f low;
          within = λ h i. subst (IsIn facts) (only_member (length facts) f h i) there;
          bodies = λ n c member found' i. absurd (nothing_in n member);
          needed = λ h i. inl (sym (only_member (length facts) f h i));
        })

    module _ (p q n : ℕ) (c : Clause ℕ) (s : List Bool) (at : FoundAt clauses found p n c) (next : q ≡ p + 1) (before : Needs clauses (drop q found) f facts s) where
      rest_is : drop p found ≡ n ∷ drop q found
      rest_is = rw (next, at.number) (drop_more found p 0 at.inside)

      -- the clause at the place p is not needed
      pub needs_same : ¬ IsIn s c.head → Needs clauses (drop p found) f facts s
      needs_same out = rw rest_is (record {
        fact = before.fact;
        within = before.within;
        bodies = λ m d member found' i. elim (Contains-cons_cases n m (drop q found) member) as (λ _. IsMet d s) [
          | inl e ↦ absurd (out (subst (λ (z : Clause ℕ). IsIn s z.head) (same_clause clauses n m c d at.clause found' (sym e)) i))
          | inr later ↦ before.bodies m d later found' i
        ];
        needed = λ h i. elim (before.needed h i) [
          | inl e ↦ inl e
          | inr w ↦ inr (w.0, w.1, Contains-later n w.0 (drop q found) w.2, w.3, w.4)
        ];
      })

      -- it is needed, and its body is put in
      pub needs_more : (s' : List Bool) → IsIn s c.head → ((g : ℕ) → IsIn s' g ↔ (IsIn s g ⊎ InBody c g)) → Needs clauses (drop p found) f facts s'
      needs_more s' in_now members = rw rest_is (record {
        fact = (members f).1 (inl before.fact);
        within = λ h i. elim ((members h).0 i) [
          | inl was ↦ before.within h was
          | inr new ↦ body_in p n c at h new
        ];
        bodies = λ m d member found' i. elim ((members d.head).0 i) as (λ _. IsMet d s') [
          | inl was ↦ elim (Contains-cons_cases n m (drop q found) member) as (λ _. IsMet d s') [
            | inl e ↦ λ b in_body. (members b).1 (inr (subst (λ (z : Clause ℕ). InBody z b) (same_clause clauses n m c d at.clause found' (sym e)) in_body))
            | inr later ↦ λ b in_body. (members b).1 (inl (before.bodies m d later found' was b in_body))
          ]
          | inr new ↦ absurd (not_before clauses (take p found) (drop p found) m d (rw take-append-drop all.order) (rw rest_is member) found' (body_before p n c at d.head new))
        ];
        needed = λ h i. elim ((members h).0 i) [
          | inl was ↦ elim (before.needed h was) [
            | inl e ↦ inl e
            | inr w ↦ inr (w.0, w.1, Contains-later n w.0 (drop q found) w.2, w.3, ((members w.1.head).1 (inl w.4.0), w.4.1))
          ]
          | inr new ↦ inr (n, c, Contains-first n (drop q found), at.clause, ((members c.head).1 (inl in_now), new))
        ];
      })

  -- the clause at place i, of which the steps of those before it are there
  module _ (s : List Bool) (bodies : HasBodies clauses found s) (steps : List ℕ) (i n : ℕ) (c : Clause ℕ) (at : FoundAt clauses found i n c) (order : IsDerivation clauses steps) (are : AreSteps clauses (take i found) s steps) where
    take_is : take (i + 1) found ≡ take i found ++ n ∷ []
    take_is = rw at.number (take_more found i 0 at.inside)

    -- is a step
    pub step_more : IsIn s c.head → IsDerivation clauses (steps ++ n ∷ []) × AreSteps clauses (take (i + 1) found) s (steps ++ n ∷ [])
    step_more in_now =
        let follows = follows_at i n c at in
        let same : follows.clause ≡ c = same_clause clauses n n c follows.clause at.clause follows.found refl in
        let member : Contains found n = subst (Contains found) (sym at.number) (Contains-get_or found i 0 at.inside) in (
          EachAfter-push (Follows clauses) steps n order (record {
            clause = c;
            found = at.clause;
            body = λ b in_body.
                let d = body_before i n c at b in_body in
                let there = bodies n c member at.clause in_now b in_body in
                (d.0, d.1, (are d.0 d.1 d.3).1 (d.2, subst (IsIn s) (sym d.4) there), d.3, d.4);
            new = λ d. follows.new (subst (λ (z : Clause ℕ). IsDerived clauses (take i found) z.head) (sym same) (d.0, d.1, ((are d.0 d.1 d.3).0 d.2).0, d.3, d.4));
          }),
          λ m d found'. (
            λ there. elim (Contains-push_cases steps n m there) [
              | inl before ↦ let was = (are m d found').0 before in (rw take_is (Contains-append_left (take i found) (n ∷ []) m was.0), was.1)
              | inr e ↦ (
                rw take_is (subst (Contains (take i found ++ n ∷ [])) e (Contains-push (take i found) n)),
                subst (λ (z : Clause ℕ). IsIn s z.head) (same_clause clauses m n d c found' at.clause e) in_now,
              )
            ],
            λ both. elim (Contains-push_cases (take i found) n m (rw take_is at both.0)) [
              | inl before ↦ Contains-append_left steps (n ∷ []) m ((are m d found').1 (before, both.1))
              | inr e ↦ subst (Contains (steps ++ n ∷ [])) e (Contains-push steps n)
            ],
          ),
        )

    -- is none
    pub step_same : ¬ IsIn s c.head → AreSteps clauses (take (i + 1) found) s steps
    step_same out = λ m d found'. (
      λ there. let was = (are m d found').0 there in (rw take_is (Contains-append_left (take i found) (n ∷ []) m was.0), was.1),
      λ both. elim (Contains-push_cases (take i found) n m (rw take_is at both.0)) as (λ _. Contains steps m) [
        | inl before ↦ (are m d found').1 (before, both.1)
        | inr e ↦ absurd (out (subst (λ (z : Clause ℕ). IsIn s z.head) (same_clause clauses n m c d at.clause found' (sym e)) both.1))
      ],
    )

  -- all steps are there
  module _ (f : ℕ) (s : List Bool) (needs : Needs clauses found f facts s) (steps : List ℕ) (order : IsDerivation clauses steps) (are : AreSteps clauses found s steps) where
    pub steps_needed : AreNeeded clauses steps f
    steps_needed h d =
        let in_set : IsIn s h = subst (IsIn s) d.4 ((are d.0 d.1 d.3).0 d.2).1 in
        elim (needs.needed h in_set) [
          | inl e ↦ inl e
          | inr w ↦ inr (w.0, w.1, (are w.0 w.1 w.3).1 (w.2, w.4.0), w.3, w.4.1)
        ]

    last_of : (x : ℕ) (xs : List ℕ) → (before : List ℕ) × (n : ℕ) × (x ∷ xs ≡ before ++ n ∷ [])
    last_of x [] = ([], x, refl)
    last_of x (y ∷ ys) = let rest = last_of y ys in (x ∷ rest.0, rest.1, ap (λ ns. x ∷ ns) rest.2)

    has_last : (ns : List ℕ) (m : ℕ) → Contains ns m → (before : List ℕ) × (n : ℕ) × (ns ≡ before ++ n ∷ [])
    has_last [] m h = absurd (nothing_in m h)
    has_last (x ∷ xs) m h = last_of x xs

    -- the head of the last one is in no body
    last_free : (before : List ℕ) (n : ℕ) → steps ≡ before ++ n ∷ [] → (follows : Follows clauses before n) → ¬ HasClause clauses steps (λ d. InBody d follows.clause.head)
    last_free before n ends follows w =
        let h = follows.clause.head in
        elim (Contains-push_cases before n w.0 (rw ends at w.2)) as (λ _. ⊥) [
          | inl earlier ↦
              let parts = member_split clauses before w.0 earlier in
              let whole : steps ≡ parts.0 ++ w.0 ∷ (parts.1 ++ n ∷ []) = ends ∙ (ap (λ ns. ns ++ n ∷ []) parts.2 ∙ append_assoc parts.0 (w.0 ∷ parts.1) (n ∷ [])) in
              let there = order parts.0 w.0 (parts.1 ++ n ∷ []) whole in
              let same : w.1 ≡ there.clause = same_clause clauses w.0 w.0 there.clause w.1 there.found w.3 refl in
              let derived = there.body h (subst (λ (z : Clause ℕ). InBody z h) same w.4) in
              follows.new (rw parts.2 (HasClause-left clauses (λ d. d.head ≡ h) parts.0 (w.0 ∷ parts.1) derived))
          | inr e ↦
              let same : w.1 ≡ follows.clause = same_clause clauses n w.0 follows.clause w.1 follows.found w.3 (sym e) in
              follows.new (follows.body h (subst (λ (z : Clause ℕ). InBody z h) same w.4))
        ]

    pub steps_last : EndsWith clauses steps f
    steps_last =
        let d = (all.derived f).0 (needs.within f needs.fact) in
        let member = (are d.0 d.1 d.3).1 (d.2, subst (IsIn s) (sym d.4) needs.fact) in
        let last = has_last steps d.0 member in
        let follows = order last.0 last.1 [] last.2 in
        let own : IsDerived clauses steps follows.clause.head = (last.1, follows.clause, subst (λ (ns : List ℕ). Contains ns last.1) (sym last.2) (Contains-push last.0 last.1), follows.found, refl) in
        elim (steps_needed follows.clause.head own) as (λ _. EndsWith clauses steps f) [
          | inl e ↦ (last.0, last.1, follows.clause, last.2, follows.found, e)
          | inr w ↦ absurd (last_free last.0 last.1 last.2 follows w)
        ]
