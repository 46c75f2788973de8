-- A derivation's clauses as steps.
use Rattle.std.proofs.Common.{◌≡◌, ◌⊎◌, ◌↔◌, Bool, true, false, IsTrue, ℕ, ◌+◌, ◌<◌, List, [], ◌∷◌, ◌++◌, length, get_or, take, Option, Some, None, inl, inr, refl, ap, sym, subst, ◌∙◌}
use Rattle.std.specs.Prelude.{Contains, All, option_map, option_to_list, slice_get}
use Rattle.std.proofs.lemmas.List.Elements.{Contains-append_left, Contains-append_right, Contains-append_cases, Contains-push, Contains-push_cases, All-nil, All-push}
use Rattle.std.proofs.lemmas.List.{flat_map_more, take_more}
use Rattle.std.proofs.lemmas.Option.{slice_get_within, slice_get-get_or}
use Rattle.guppy_search.proofs.Lists.{nothing_in, Contains-first, Contains-later, Contains-cons_cases, EachAfter-nil, EachAfter-push, EachAfter-along}
use Rattle.guppy_closure.specs.declared.clause.Clause.{Clause}
use Rattle.guppy_closure.specs.Clauses.{InBody, Holds}
use Rattle.guppy_closure.specs.Derived.{IsDerived, IsDerivation, Follows, EndsWith, AreNeeded as AreClausesNeeded}
use Rattle.guppy_closure.specs.Relations.{AreClausesOf}
use Rattle.guppy_closure.proofs.Relations.{in_body_of, holds_by}
use Rattle.guppy_closure.proofs.Places.{contains_at}
use Rattle.guppy_features.specs.declared.fact.Fact.{Fact}
use Rattle.guppy_features.specs.declared.reason.Reason.{Reason}
use Rattle.guppy_features.specs.Reasons.{grounds, IsReached, IsReason, AreReasons, IsWay, AreWays, EndsIn, AreNeeded, Leads, IsLeading, AreLeading, reason_of, reasons_of}
use Rattle.guppy_features.proofs.Adding.{in_body}

of_option : (o : Option (Clause Fact)) (r : Reason) → Contains (option_to_list (option_map reason_of o)) r → (c : Clause Fact) × (o ≡ Some c) × (reason_of c ≡ r)
of_option None r h = absurd (nothing_in r h)
of_option (Some c) r h = elim (Contains-cons_cases (reason_of c) r [] h) as (λ _. (d : Clause Fact) × (Some c ≡ Some d) × (reason_of d ≡ r)) [
  | inl e ↦ (c, refl, e)
  | inr none ↦ absurd (nothing_in r none)
]

module _ (clauses : List (Clause Fact)) (f : Fact) where
  -- the steps of one clause more, which leads to the fact
  one_leads : (looked : List (Clause Fact)) (steps : List Reason) (c : Clause Fact) → AreLeading looked clauses f steps → Leads clauses f c → AreLeading (looked ++ c ∷ []) clauses f (steps ++ reason_of c ∷ [])
  one_leads looked steps c are leads r = (
    λ h. elim (Contains-push_cases steps (reason_of c) r h) as (λ _. IsLeading (looked ++ c ∷ []) clauses f r) [
      | inl old ↦ let w = (are r).0 old in (w.0, Contains-append_left looked (c ∷ []) w.0 w.1, w.2, w.3)
      | inr last ↦ (c, Contains-push looked c, last, leads)
    ],
    λ w. elim (Contains-push_cases looked c w.0 w.1) as (λ _. Contains (steps ++ reason_of c ∷ []) r) [
      | inl old ↦ Contains-append_left steps (reason_of c ∷ []) r ((are r).1 (w.0, old, w.2, w.3))
      | inr last ↦ subst (Contains (steps ++ reason_of c ∷ [])) (ap reason_of last ∙ w.2) (Contains-push steps (reason_of c))
    ],
  )

  -- and of one that does not
  one_other : (looked : List (Clause Fact)) (steps : List Reason) (c : Clause Fact) → AreLeading looked clauses f steps → ¬ Leads clauses f c → AreLeading (looked ++ c ∷ []) clauses f steps
  one_other looked steps c are other r = (
    λ h. let w = (are r).0 h in (w.0, Contains-append_left looked (c ∷ []) w.0 w.1, w.2, w.3),
    λ w. elim (Contains-push_cases looked c w.0 w.1) as (λ _. Contains steps r) [
      | inl old ↦ (are r).1 (w.0, old, w.2, w.3)
      | inr last ↦ absurd (other (subst (Leads clauses f) (sym last) w.3))
    ],
  )

  -- and as a loop finds them
  module _ (all : List (Clause Fact)) (i : ℕ) (d : Clause Fact) (steps : List Reason) (b : Bool) (below : i < length all) (are : AreLeading (take i all) clauses f steps) (leads : IsTrue b ↔ Leads clauses f (get_or all i d)) where
    pub leading_more : b ≡ true → AreLeading (take (i + 1) all) clauses f (steps ++ reason_of (get_or all i d) ∷ [])
    leading_more is = rw (take_more all i d below) (one_leads (take i all) steps (get_or all i d) are (leads.0 is))

    pub leading_other : b ≡ false → AreLeading (take (i + 1) all) clauses f steps
    leading_other is = rw (take_more all i d below) (one_other (take i all) steps (get_or all i d) are (λ h. let so = leads.1 h in cc))

module _ (clauses : List (Clause Fact)) where
  -- the step of the number
  abbrev step_of : ℕ → List Reason
  step_of n = option_to_list (option_map reason_of (slice_get clauses n))

  step_is : (n : ℕ) (c : Clause Fact) → slice_get clauses n ≡ Some c → step_of n ≡ reason_of c ∷ []
  step_is n c found = ap (λ (o : Option (Clause Fact)). option_to_list (option_map reason_of o)) found

  -- one number more
  pub reasons_more : (ns : List ℕ) (n : ℕ) (c : Clause Fact) → slice_get clauses n ≡ Some c → reasons_of clauses (ns ++ n ∷ []) ≡ reasons_of clauses ns ++ reason_of c ∷ []
  reasons_more ns n c found =
      sym (flat_map_more step_of [] ns n) ∙ ap (λ (steps : List Reason). reasons_of clauses ns ++ steps) (step_is n c found)

  -- and as a loop makes it
  pub reason_more : (ns : List ℕ) (i : ℕ) (d : Clause Fact) (r : Reason) → i < length ns → get_or ns i 0 < length clauses → r ≡ reason_of (get_or clauses (get_or ns i 0) d) → reasons_of clauses (take (i + 1) ns) ≡ reasons_of clauses (take i ns) ++ r ∷ []
  reason_more ns i d r below inside is =
      let n = get_or ns i 0 in
      ap (reasons_of clauses) (take_more ns i 0 below)
      ∙ reasons_more (take i ns) n (get_or clauses n d) (slice_get-get_or clauses n d inside)
      ∙ ap (λ (last : Reason). reasons_of clauses (take i ns) ++ last ∷ []) (sym is)

  has_step : (ns : List ℕ) (n : ℕ) (c : Clause Fact) → Contains ns n → slice_get clauses n ≡ Some c → Contains (reasons_of clauses ns) (reason_of c)
  has_step [] n c h found = absurd (nothing_in n h)
  has_step (m ∷ ns) n c h found = elim (Contains-cons_cases m n ns h) as (λ _. Contains (step_of m ++ reasons_of clauses ns) (reason_of c)) [
    | inl e ↦
        let here : step_of m ≡ reason_of c ∷ [] = ap step_of e ∙ step_is n c found in
        Contains-append_left (step_of m) (reasons_of clauses ns) (reason_of c) (subst (λ (steps : List Reason). Contains steps (reason_of c)) (sym here) (Contains-first (reason_of c) []))
    | inr later ↦ Contains-append_right (step_of m) (reasons_of clauses ns) (reason_of c) (has_step ns n c later found)
  ]

  of_step : (ns : List ℕ) (r : Reason) → Contains (reasons_of clauses ns) r → (n : ℕ) × (c : Clause Fact) × Contains ns n × (slice_get clauses n ≡ Some c) × (reason_of c ≡ r)
  of_step [] r h = absurd (nothing_in r h)
  of_step (m ∷ ns) r h = elim (Contains-append_cases (step_of m) (reasons_of clauses ns) r h) as (λ _. (n : ℕ) × (c : Clause Fact) × Contains (m ∷ ns) n × (slice_get clauses n ≡ Some c) × (reason_of c ≡ r)) [
    | inl here ↦ let w = of_option (slice_get clauses m) r here in (m, w.0, Contains-first m ns, w.1, w.2)
    | inr later ↦ let w = of_step ns r later in (w.0, w.1, Contains-later m w.0 ns w.2, w.3, w.4)
  ]

  -- the heads are the facts of the steps
  reached : (ns : List ℕ) (f : Fact) → IsDerived clauses ns f → IsReached (reasons_of clauses ns) f
  reached ns f d = (reason_of d.1, has_step ns d.0 d.1 d.2 d.3, d.4)

  derived : (ns : List ℕ) (f : Fact) → IsReached (reasons_of clauses ns) f → IsDerived clauses ns f
  derived ns f r = let w = of_step ns r.0 r.1 in (w.0, w.1, w.2, w.3, ap (λ (s : Reason). s.fact) w.4 ∙ r.2)

  module _ (C : List Fact → Fact → Type 0) (are : AreClausesOf C clauses) where
    a_reason : (before : List ℕ) (n : ℕ) (follows : Follows clauses before n) → IsReason C (reasons_of clauses before) (reason_of follows.clause)
    a_reason before n follows = record {
      follows = are.sound follows.clause (contains_at clauses follows.clause n follows.found);
      reached = λ g h. reached before g (follows.body g (in_body_of follows.clause g h));
      new = λ h. follows.new (derived before follows.clause.head h);
    }

    -- what leads to the fact is a way
    a_way : (f : Fact) (c : Clause Fact) (r : Reason) → Contains clauses c → reason_of c ≡ r → Leads clauses f c → IsWay C f r
    a_way f c r among is leads = subst (IsWay C f) is (record {
      fact = leads.0;
      follows = are.sound c among;
      holds = λ g h. (holds_by C clauses are g).1 (leads.1 g (in_body_of c g h));
    })

    -- and of each way one that needs no more leads there
    pub are_ways : (f : Fact) (ways : List Reason) → AreLeading clauses clauses f ways → AreWays C f ways
    are_ways f ways are_leading = record {
      sound = λ r h. let w = (are_leading r).0 h in a_way f w.0 r w.1 w.2 w.3;
      whole = λ body follows holds.
          let w = are.whole body f follows in
          let met : (b : Fact) → InBody w.0 b → Holds clauses b = λ b i. (holds_by C clauses are b).0 (holds b (w.3 b i)) in
          (reason_of w.0, (are_leading (reason_of w.0)).1 (w.0, w.1, refl, (w.2, met)), λ g h. w.3 g (in_body_of w.0 g h));
    }

    -- each step is a reason, by those before it
    pub are_reasons : (ns : List ℕ) → IsDerivation clauses ns → AreReasons C (reasons_of clauses ns)
    are_reasons ns each = EachAfter-along (Follows clauses) (λ before. AreReasons C (reasons_of clauses before))
        (λ before n follows all. subst (AreReasons C) (sym (reasons_more before n follows.clause follows.found))
        (EachAfter-push (IsReason C) (reasons_of clauses before) (reason_of follows.clause) all (a_reason before n follows)))
        ns each (EachAfter-nil (IsReason C))

  pub ends_in : (ns : List ℕ) (f : Fact) → EndsWith clauses ns f → EndsIn (reasons_of clauses ns) f
  ends_in ns f e = (reasons_of clauses e.0, reason_of e.2, ap (reasons_of clauses) e.3 ∙ reasons_more e.0 e.1 e.2 e.4, e.5)

  pub all_needed : (ns : List ℕ) (f : Fact) → AreClausesNeeded clauses ns f → AreNeeded (reasons_of clauses ns) f
  all_needed ns f needed r h =
      elim (needed r.fact (derived ns r.fact (r, h, refl))) as (λ _. (r.fact ≡ f) ⊎ ((next : Reason) × Contains (reasons_of clauses ns) next × Contains (grounds next) r.fact)) [
        | inl e ↦ inl e
        | inr w ↦ inr (reason_of w.1, has_step ns w.0 w.1 w.2 w.3, in_body w.1 r.fact w.4)
      ]

  -- each number is that of a clause
  pub numbers_within : (ns : List ℕ) → IsDerivation clauses ns → All (λ n. n < length clauses) ns
  numbers_within ns each = EachAfter-along (Follows clauses) (λ before. All (λ n. n < length clauses) before)
      (λ before n follows all. All-push (λ (m : ℕ). m < length clauses) before n all (slice_get_within clauses n follows.clause follows.found))
      ns each (All-nil (λ (m : ℕ). m < length clauses))
