-- Lists of clauses, each after those that it needs.
use Rattle.std.proofs.Common.{◌≡◌, ◌⊎◌, ℕ, ◌<◌, List, [], ◌∷◌, ◌++◌, length, Some, inl, inr, refl, sym, ap, ◌∙◌, subst, append_assoc}
use Rattle.std.specs.Prelude.{slice_get, Contains}
use Rattle.std.proofs.lemmas.List.Elements.{Contains-push, Contains-append_left, Contains-append_right, Contains-push_cases}
use Rattle.std.proofs.lemmas.Option.{slice_get_within}
use Rattle.guppy_search.proofs.Lists.{nothing_in, Contains-cons_cases, EachAfter-along}
use Rattle.guppy_closure.specs.declared.clause.Clause.{Clause}
use Rattle.guppy_closure.specs.Clauses.{Holds, by}
use Rattle.guppy_closure.specs.Derived.{HasClause, IsDerived, Follows, IsDerivation}
use Rattle.guppy_closure.proofs.MetBodies.{same_clause}

module _ (clauses : List (Clause ℕ)) (P : Clause ℕ → Type 0) where
  -- what is there is there with more behind
  pub HasClause-left : (ns ms : List ℕ) → HasClause clauses ns P → HasClause clauses (ns ++ ms) P
  HasClause-left ns ms h = (h.0, h.1, Contains-append_left ns ms h.0 h.2, h.3, h.4)

  -- and with more in front
  pub HasClause-right : (ms ns : List ℕ) → HasClause clauses ns P → HasClause clauses (ms ++ ns) P
  HasClause-right ms ns h = (h.0, h.1, Contains-append_right ms ns h.0 h.2, h.3, h.4)

  -- the last one
  pub HasClause-push : (ns : List ℕ) (n : ℕ) (c : Clause ℕ) → slice_get clauses n ≡ Some c → P c → HasClause clauses (ns ++ n ∷ []) P
  HasClause-push ns n c found p = (n, c, Contains-push ns n, found, p)

  -- one of those before, or the last one
  pub HasClause-push_cases : (ns : List ℕ) (n : ℕ) (c : Clause ℕ) → slice_get clauses n ≡ Some c → HasClause clauses (ns ++ n ∷ []) P → HasClause clauses ns P ⊎ P c
  HasClause-push_cases ns n c found h = elim (Contains-push_cases ns n h.0 h.2) [
    | inl before ↦ inl (h.0, h.1, before, h.3, h.4)
    | inr last ↦ inr (subst P (same_clause clauses n h.0 c h.1 found h.3 (sym last)) h.4)
  ]

  -- the first one, or one of those behind
  pub HasClause-cons_cases : (n : ℕ) (ns : List ℕ) (c : Clause ℕ) → slice_get clauses n ≡ Some c → HasClause clauses (n ∷ ns) P → P c ⊎ HasClause clauses ns P
  HasClause-cons_cases n ns c found h = elim (Contains-cons_cases n h.0 ns h.2) [
    | inl first ↦ inl (subst P (same_clause clauses n h.0 c h.1 found h.3 (sym first)) h.4)
    | inr later ↦ inr (h.0, h.1, later, h.3, h.4)
  ]

module _ (clauses : List (Clause ℕ)) where
  -- what a derivation derives holds
  pub derived_holds : (ns : List ℕ) → IsDerivation clauses ns → (f : ℕ) → IsDerived clauses ns f → Holds clauses f
  derived_holds ns each = EachAfter-along (Follows clauses) (λ before. (f : ℕ) → IsDerived clauses before f → Holds clauses f)
      (λ before n follows all f d. elim (HasClause-push_cases clauses (λ c. c.head ≡ f) before n follows.clause follows.found d) as (λ _. Holds clauses f) [
        | inl earlier ↦ all f earlier
        | inr e ↦ by n follows.clause follows.found e (λ b i. all b (follows.body b i))
      ])
      ns each (λ f d. absurd (nothing_in d.0 d.2))

  pub member_split : (ns : List ℕ) (m : ℕ) → Contains ns m → (front : List ℕ) × (back : List ℕ) × (ns ≡ front ++ m ∷ back)
  member_split [] m h = absurd (nothing_in m h)
  member_split (n ∷ ns) m h = elim (Contains-cons_cases n m ns h) as (λ _. (front : List ℕ) × (back : List ℕ) × (n ∷ ns ≡ front ++ m ∷ back)) [
    | inl e ↦ ([], ns, ap (λ (k : ℕ). k ∷ ns) e)
    | inr later ↦ let rest = member_split ns m later in (n ∷ rest.0, rest.1, ap (λ ks. n ∷ ks) rest.2)
  ]

  -- no head from some place on is derived before it
  pub not_before : (before after : List ℕ) (m : ℕ) (d : Clause ℕ) → IsDerivation clauses (before ++ after) → Contains after m → slice_get clauses m ≡ Some d → ¬ IsDerived clauses before d.head
  not_before before after m d each h found derived =
      let parts = member_split after m h in
      let whole : before ++ after ≡ (before ++ parts.0) ++ m ∷ parts.1 = ap (λ ks. before ++ ks) parts.2 ∙ sym (append_assoc before parts.0 (m ∷ parts.1)) in
      let follows = each (before ++ parts.0) m parts.1 whole in
      let same : d ≡ follows.clause = same_clause clauses m m follows.clause d follows.found found refl in
      follows.new (HasClause-left clauses (λ c. c.head ≡ follows.clause.head) before parts.0 (subst (λ (z : Clause ℕ). IsDerived clauses before z.head) same derived))

  -- each of its numbers is that of a clause
  pub numbered : (ns : List ℕ) → IsDerivation clauses ns → (n : ℕ) → Contains ns n → n < length clauses
  numbered ns each n h =
      let parts = member_split ns n h in
      let follows = each parts.0 n parts.1 parts.2 in
      slice_get_within clauses n follows.clause follows.found
