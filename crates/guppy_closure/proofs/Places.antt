-- Facts by their places in a list of facts that ascend.
use Rattle.std.proofs.Common.{◌≡◌, ⊎_elim, ◌∙◌, ℕ, suc, zero, ◌+◌, ◌<◌, Bool, true, false, List, [], ◌∷◌, ◌++◌, length, get_or, drop, drop-cons, add-one, Option, Some, None, Result, Ok, Err, inl, inr, refl, sym, ap, subst, arith}
use Rattle.std.specs.Prelude.{slice_get, Contains, MatchOption, All, flat_map, option_to_list}
use Rattle.std.specs.Bool.{then_some}
use Rattle.std.specs.Result.{result_ok}
use Rattle.std.specs.List.{AllByRecursion}
use Rattle.std.specs.List.Sorted.{IsSorted, IsStrictlySortedBy, IsBinarySearchResult, IsSearchInRange}
use Rattle.std.specs.Cmp.{IsTotalOrder}
use Rattle.std.specs.Ordering.{is_lt, ordering_reverse}
use Rattle.std.specs.declared.cmp.Ordering.{Ordering}
use Rattle.std.specs.declared.cmp.Ordering.TheVariants.{Less}
use Rattle.std.proofs.lemmas.Bool.{cases_lt, cases_eq}
use Rattle.std.proofs.lemmas.Cmp.{tied_itself}
use Rattle.std.proofs.lemmas.List.Sorted.{searchable_from_sorted}
use Rattle.std.proofs.lemmas.List.Elements.{Contains-push, Contains-append_left, Contains-append_right}
use Rattle.std.proofs.lemmas.Map.Keys.{Less-from_sorted}
use Rattle.std.proofs.lemmas.Option.{slice_get_within, slice_get-get_or, get_or_from_slice_get, slice_get_cases}
use Rattle.guppy_search.specs.IxSet.{has, IsIn}
use Rattle.guppy_search.proofs.Lists.{nothing_in, Contains-cons_cases, Contains-first, Contains-later}
use Rattle.guppy_closure.specs.declared.clause.Clause.{Clause}
use Rattle.guppy_closure.specs.Clauses.{IsWithin}
use Rattle.guppy_closure.specs.Named.{IsExact, body_of, facts_of, StandsAt, held, IsSameFact, IsSameClause, AreSame}

module _ {F : Type 0} where
  pub contains_at : (names : List F) (f : F) (p : ℕ) → StandsAt names f p → Contains names f
  contains_at names f p at = (p, slice_get_within names p f at, get_or_from_slice_get names p f f at)

  pub at_contains : (names : List F) (f : F) → Contains names f → (p : ℕ) × StandsAt names f p
  at_contains names f h = (h.0, slice_get-get_or names h.0 f h.1 ∙ ap Some h.2)

  -- a place has one fact
  pub same_fact : (names : List F) (p : ℕ) (f h : F) → StandsAt names f p → StandsAt names h p → f ≡ h
  same_fact names p f h a b = cc

  module _ {cmp : F → F → Ordering} (o : IsTotalOrder cmp) (names : List F) (up : IsStrictlySortedBy cmp names) where
    sorted : IsSorted cmp names
    sorted k d low high =
        let rises : cmp (get_or names k d) (get_or names (k + 1) d) ≡ Less = Less-from_sorted cmp names k (k + 1) d up (omega arith) high in
        ap is_lt (o.antisymm (get_or names (k + 1) d) (get_or names k d) ∙ ap ordering_reverse rises)

    not_twice : (f : F) (p q : ℕ) → StandsAt names f p → StandsAt names f q → p < q → ⊥
    not_twice f p q a b low =
        let rises = Less-from_sorted cmp names p q f up low (slice_get_within names q f b) in
        let first = get_or_from_slice_get names p f f a in
        let second = get_or_from_slice_get names q f f b in
        let tied = tied_itself o f in
        absurd (cc)

    -- and a fact one place
    pub same_place : (f : F) (p q : ℕ) → StandsAt names f p → StandsAt names f q → p ≡ q
    same_place f p q a b = ⊎_elim
        (λ e. e)
        (λ other. ⊎_elim (λ low. absurd (not_twice f p q a b low)) (λ high. absurd (not_twice f q p b a (omega arith))) (cases_lt p q))
        (cases_eq p q)

    -- a binary search finds it
    pub found_at : IsExact cmp → (f : F) (r : Result ℕ ℕ) → IsSearchInRange r (length names) → IsBinarySearchResult (λ y. cmp y f) names r → MatchOption (result_ok r) (¬ Contains names f) (StandsAt names f)
    found_at exact f (Ok i) range at = slice_get-get_or names i f range ∙ ap Some (exact (get_or names i f) f (at f))
    found_at exact f (Err i) range at =
        let apart = at (searchable_from_sorted o (λ y. y) names f sorted) in
        let tied = tied_itself o f in
        λ (k, below, is). ⊎_elim (λ before. absurd (cc (apart.0 k f (omega arith) before, is, tied))) (λ from. absurd (cc (apart.1 k f from below, is, tied))) (cases_lt k i)

  option_named : (a : Option F) (f : F) → a ≡ Some f → Contains (option_to_list a) f
  option_named None f e = absurd (cc)
  option_named (Some g) f e = let same : g ≡ f = cc in subst (Contains (g ∷ [])) same (Contains-first g [])

  -- a clause names its facts
  pub first_named : (c : Clause F) (f : F) → c.first ≡ Some f → Contains (facts_of c) f
  first_named c f e = Contains-append_left (body_of c) (c.head ∷ []) f (Contains-append_left (option_to_list c.first) (option_to_list c.second) f (option_named c.first f e))

  pub second_named : (c : Clause F) (f : F) → c.second ≡ Some f → Contains (facts_of c) f
  second_named c f e = Contains-append_left (body_of c) (c.head ∷ []) f (Contains-append_right (option_to_list c.first) (option_to_list c.second) f (option_named c.second f e))

  pub head_named : (c : Clause F) → Contains (facts_of c) c.head
  head_named c = Contains-push (body_of c) c.head

  -- and so do the clauses
  pub clause_named : (cs : List (Clause F)) (k : ℕ) (c : Clause F) → slice_get cs k ≡ Some c → (f : F) → Contains (facts_of c) f → Contains (flat_map facts_of cs) f
  clause_named [] k c found f h = absurd (cc)
  clause_named (d ∷ cs) zero c found f h =
      let same : d ≡ c = cc in
      subst (λ z. Contains (facts_of z ++ flat_map facts_of cs) f) (sym same) (Contains-append_left (facts_of c) (flat_map facts_of cs) f h)
  clause_named (d ∷ cs) (suc k) c found f h = Contains-append_right (facts_of d) (flat_map facts_of cs) f (clause_named cs k c found f h)

  -- the places of clauses are below the count of names
  fact_within : (names : List F) (a : Option F) (b : Option ℕ) (p : ℕ) → IsSameFact (StandsAt names) a b → b ≡ Some p → p < length names
  fact_within names None None p s e = absurd (cc)
  fact_within names None (Some q) p s e = absurd s
  fact_within names (Some f) None p s e = absurd (cc)
  fact_within names (Some f) (Some q) p s e = let same : q ≡ p = cc in subst (λ (x : ℕ). x < length names) same (slice_get_within names q f s)

  pub clause_within : (names : List F) (c : Clause F) (d : Clause ℕ) → IsSameClause (StandsAt names) c d → IsWithin (length names) d
  clause_within names c d s = record {
    head = slice_get_within names d.head c.head s.head;
    body = λ b i. elim i as (λ _. b < length names) [
      | inl e ↦ fact_within names c.first d.first b s.first e
      | inr e ↦ fact_within names c.second d.second b s.second e
    ];
  }

  pub clauses_within : (names : List F) (cs : List (Clause F)) (ds : List (Clause ℕ)) → AreSame (StandsAt names) cs ds → All (IsWithin (length names)) ds
  clauses_within names cs ds s = λ k d low.
      let size = s.size in
      elim (slice_get_cases cs k).1 as (λ _. IsWithin (length names) (get_or ds k d)) [
        | inl w ↦ clause_within names w.0 (get_or ds k d) (s.each k w.0 (get_or ds k d) w.2 (slice_get-get_or ds k d low))
        | inr w ↦ absurd (let past = w.0 in omega arith)
      ]

  -- the facts whose places are in a set are held
  pub held_in : (set : List Bool) (names : List F) (f : F) (p : ℕ) → StandsAt names f p → IsIn set p → Contains (held set names) f
  held_in [] names f p at i = absurd (cc)
  held_in (b ∷ set) [] f p at i = absurd (cc)
  held_in (true ∷ set) (g ∷ names) f zero at i = let same : g ≡ f = cc in subst (Contains (g ∷ held set names)) same (Contains-first g (held set names))
  held_in (false ∷ set) (g ∷ names) f zero at i = absurd (cc)
  held_in (true ∷ set) (g ∷ names) f (suc p) at i = Contains-later g f (held set names) (held_in set names f p at i)
  held_in (false ∷ set) (g ∷ names) f (suc p) at i = held_in set names f p at i

  -- and no others
  pub in_held : (set : List Bool) (names : List F) (f : F) → Contains (held set names) f → (p : ℕ) × StandsAt names f p × IsIn set p
  in_held [] names f h = absurd (nothing_in f h)
  in_held (b ∷ set) [] f h = absurd (nothing_in f h)
  in_held (true ∷ set) (g ∷ names) f h = elim (Contains-cons_cases g f (held set names) h) as (λ _. (p : ℕ) × StandsAt (g ∷ names) f p × IsIn (true ∷ set) p) [
    | inl e ↦ (0, ap Some e, refl)
    | inr later ↦ let w = in_held set names f later in (suc w.0, w.1, w.2)
  ]
  in_held (false ∷ set) (g ∷ names) f h = let w = in_held set names f h in (suc w.0, w.1, w.2)

  all_held : (P : F → Type 0) (set : List Bool) (names : List F) → AllByRecursion P names → AllByRecursion P (held set names)
  all_held P [] names all = tt
  all_held P (b ∷ set) [] all = tt
  all_held P (true ∷ set) (g ∷ names) all = (all.0, all_held P set names all.1)
  all_held P (false ∷ set) (g ∷ names) all = all_held P set names all.1

  -- in their order
  pub held_sorted : (cmp : F → F → Ordering) (set : List Bool) (names : List F) → IsStrictlySortedBy cmp names → IsStrictlySortedBy cmp (held set names)
  unfolding IsStrictlySortedBy
  held_sorted cmp [] names up = tt
  held_sorted cmp (b ∷ set) [] up = tt
  held_sorted cmp (true ∷ set) (g ∷ names) up = (all_held (λ y. cmp g y ≡ Less) set names up.0, held_sorted cmp set names up.1)
  held_sorted cmp (false ∷ set) (g ∷ names) up = held_sorted cmp set names up.1

  -- the next one, before those behind it
  pub held_next : (set : List Bool) (names : List F) (k : ℕ) (d : F) → k < length set → k < length names → has set k ≡ true → held (drop k set) (drop k names) ≡ get_or names k d ∷ held (drop (k + 1) set) (drop (k + 1) names)
  held_next set names k d low high there =
      let bits : drop k set ≡ get_or set k false ∷ drop (k + 1) set = rw add-one (drop-cons set k false low) in
      let facts : drop k names ≡ get_or names k d ∷ drop (k + 1) names = rw add-one (drop-cons names k d high) in
      rw (bits, facts, there) refl

  pub held_skipped : (set : List Bool) (names : List F) (k : ℕ) (d : F) → k < length set → k < length names → has set k ≡ false → held (drop k set) (drop k names) ≡ held (drop (k + 1) set) (drop (k + 1) names)
  held_skipped set names k d low high lacks =
      let bits : drop k set ≡ get_or set k false ∷ drop (k + 1) set = rw add-one (drop-cons set k false low) in
      let facts : drop k names ≡ get_or names k d ∷ drop (k + 1) names = rw add-one (drop-cons names k d high) in
      rw (bits, facts, lacks) refl

  -- the same of lists that are read through others
  pub named_places : (cs cs' cs'' : List (Clause F)) (names names' : List F) → cs' ≡ cs → cs'' ≡ cs → names' ≡ names → ((f : F) → Contains (flat_map facts_of cs') f → Contains names f) → (f : F) → Contains (flat_map facts_of cs'') f → Contains names' f
  named_places cs cs' cs'' names names' a b d all f h =
      rw d (all f (rw a (subst (λ z. Contains (flat_map facts_of z) f) b h)))

  pub within_places : (names names' : List F) (cs : List (Clause F)) (ds ds' : List (Clause ℕ)) (count : ℕ) → names' ≡ names → ds' ≡ ds → count ≡ length names → AreSame (StandsAt names') cs ds → All (IsWithin count) ds'
  within_places names names' cs ds ds' count a b size s = rw (size, b) (clauses_within names cs ds (subst (λ z. AreSame (StandsAt z) cs ds) a s))

  pub same_places : (cs cs' : List (Clause F)) (names names' : List F) (ds : List (Clause ℕ)) → cs' ≡ cs → names' ≡ names → AreSame (StandsAt names') cs' ds → AreSame (StandsAt names) cs ds
  same_places cs cs' names names' ds a b s = subst (λ z. AreSame (StandsAt names) z ds) a (subst (λ z. AreSame (StandsAt z) cs' ds) b s)

  -- the place of a fact, where it is in a set
  pub place_in : {cmp : F → F → Ordering} (o : IsTotalOrder cmp) (names : List F) (up : IsStrictlySortedBy cmp names) (f : F) (p : ℕ) (b : Bool) (set : List Bool) → StandsAt names f p → b ≡ has set p → (r : Option ℕ) → r ≡ then_some b p
      → MatchOption r ((q : ℕ) → StandsAt names f q → ¬ IsIn set q) (λ q. StandsAt names f q × IsIn set q)
  place_in o names up f p true set at e r is = rw is (at, sym e)
  place_in o names up f p false set at e r is = rw is (λ q there i. let same = same_place o names up f p q at there in absurd (let other : has set p ≡ true = rw same i in cc))
