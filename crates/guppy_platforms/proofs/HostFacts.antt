-- Which packages run on the host follows from clauses.
use Rattle.std.proofs.Common.{◌≡◌, ◌↔◌, ℕ, Bool, true, false, List, [], ◌∷◌, map, IsTrue, inl, inr, refl, subst}
use Rattle.std.specs.Prelude.{Contains}
use Rattle.std.proofs.lemmas.List.Elements.{Contains-append_cases, Contains-append_left, Contains-append_right}
use Rattle.guppy_search.proofs.Lists.{nothing_in, Contains-cons_cases, Contains-first, Contains-later}
use Rattle.guppy_closure.specs.declared.clause.Clause.{Clause}
use Rattle.guppy_closure.specs.Clauses.{InBody, Holds, by}
use Rattle.guppy_closure.specs.Named.{StandsAt, AreSame}
use Rattle.guppy_closure.proofs.MetBodies.{Holds-least}
use Rattle.guppy_closure.proofs.Places.{contains_at, at_contains, same_fact}
use Rattle.guppy_closure.proofs.Renamed.{back_clauses, holds_after}
use Rattle.guppy_data.specs.declared.records.LinkRecord.{LinkRecord}
use Rattle.guppy_data.specs.declared.records.PackageRecord.{PackageRecord}
use Rattle.guppy_platforms.specs.Counting.{is_asked_for}
use Rattle.guppy_platforms.specs.Host.{is_macro, RunsOnHost, expands, builds, needed}
use Rattle.guppy_platforms.specs.HostClauses.{clause, package_clause, link_clause, clauses_of, AreApart}

module _ {X Y : Type 0} (f : X → Y) where
  in_map : (xs : List X) (y : Y) → Contains (map f xs) y → (z : X) × Contains xs z × (f z ≡ y)
  in_map [] y h = absurd (nothing_in y h)
  in_map (x ∷ xs) y h = elim (Contains-cons_cases (f x) y (map f xs) h) as (λ _. (z : X) × Contains (x ∷ xs) z × (f z ≡ y)) [
    | inl e ↦ (x, Contains-first x xs, e)
    | inr later ↦ let w = in_map xs y later in (w.0, Contains-later x w.0 xs w.1, w.2)
  ]

  map_in : (xs : List X) (x : X) → Contains xs x → Contains (map f xs) (f x)
  map_in [] x h = absurd (nothing_in x h)
  map_in (z ∷ xs) x h = elim (Contains-cons_cases z x xs h) as (λ _. Contains (map f (z ∷ xs)) (f x)) [
    | inl e ↦ subst (λ w. Contains (map f (z ∷ xs)) (f w)) e (Contains-first (f z) (map f xs))
    | inr later ↦ Contains-later (f z) (f x) (map f xs) (map_in xs x later)
  ]

module _ (packages : List PackageRecord) (links : List LinkRecord) where
  abbrev all : List (Clause (List ℕ))
  all = clauses_of packages links

  of_package : (p : PackageRecord) → Contains packages p → Contains all (package_clause p)
  of_package p h = Contains-append_left (map package_clause packages) (map link_clause links) _ (map_in package_clause packages p h)

  of_link : (l : LinkRecord) → Contains links l → Contains all (link_clause l)
  of_link l h = Contains-append_right (map package_clause packages) (map link_clause links) _ (map_in link_clause links l h)

  by_clause : (c : Clause (List ℕ)) → Contains all c → ((b : List ℕ) → InBody c b → Holds all b) → Holds all c.head
  by_clause c h body = let at = at_contains all c h in by at.0 c at.1 refl body

  given : (is_given : Bool) (fact head : List ℕ) → IsTrue is_given → (b : List ℕ) → InBody (clause is_given fact head) b → Holds all b
  given true fact head t b i = absurd (elim i as (λ _. ⊥) [ inl e ↦ cc | inr e ↦ cc ])
  given false fact head t b i = absurd (cc)

  either : (is_given : Bool) (fact head : List ℕ) → Holds all fact → (b : List ℕ) → InBody (clause is_given fact head) b → Holds all b
  either true fact head h b i = absurd (elim i as (λ _. ⊥) [ inl e ↦ cc | inr e ↦ cc ])
  either false fact head h b i = elim i as (λ _. Holds all b) [
    | inl e ↦ let same : fact ≡ b = cc in subst (Holds all) same h
    | inr e ↦ absurd (cc)
  ]

  follows : (id : List ℕ) → RunsOnHost packages links id → Holds all id
  follows id (expands p h is) = by_clause (package_clause p) (of_package p h) (given (is_macro p) p.id p.id is)
  follows id (builds l h is) = by_clause (link_clause l) (of_link l h) (given (is_asked_for l.build) l.from l.to is)
  follows id (needed l h runs) = by_clause (link_clause l) (of_link l h) (either (is_asked_for l.build) l.from l.to (follows l.from runs))

  package_sound : (p : PackageRecord) → Contains packages p → (b : Bool) → is_macro p ≡ b
      → ((id : List ℕ) → InBody (clause b p.id p.id) id → RunsOnHost packages links id) → RunsOnHost packages links p.id
  package_sound p h true is body = expands p h is
  package_sound p h false is body = body p.id (inl refl)

  link_sound : (l : LinkRecord) → Contains links l → (b : Bool) → is_asked_for l.build ≡ b
      → ((id : List ℕ) → InBody (clause b l.from l.to) id → RunsOnHost packages links id) → RunsOnHost packages links l.to
  link_sound l h true is body = builds l h is
  link_sound l h false is body = needed l h (body l.from (inl refl))

  sound : (c : Clause (List ℕ)) → Contains all c → ((b : List ℕ) → InBody c b → RunsOnHost packages links b) → RunsOnHost packages links c.head
  sound c h body = elim (Contains-append_cases (map package_clause packages) (map link_clause links) c h) as (λ _. RunsOnHost packages links c.head) [
    | inl i ↦
        let w = in_map package_clause packages c i in
        subst (λ d. ((b : List ℕ) → InBody d b → RunsOnHost packages links b) → RunsOnHost packages links d.head) w.2 (package_sound w.0 w.1 (is_macro w.0) refl) body
    | inr i ↦
        let w = in_map link_clause links c i in
        subst (λ d. ((b : List ℕ) → InBody d b → RunsOnHost packages links b) → RunsOnHost packages links d.head) w.2 (link_sound w.0 w.1 (is_asked_for w.0.build) refl) body
  ]

  -- exactly what follows runs on the host
  runs_where_holds : (id : List ℕ) → Holds all id ↔ RunsOnHost packages links id
  runs_where_holds id = (
    λ h. Holds-least all (RunsOnHost packages links) (λ n c found body. sound c (contains_at all c n found) body) id h,
    λ r. follows id r,
  )

  -- and its number holds by the numbered clauses
  pub number_holds : (texts : List (List ℕ)) (numbered : List (Clause ℕ)) → AreApart texts → AreSame (StandsAt texts) all numbered → (id : List ℕ) (n : ℕ) → StandsAt texts id n
      → Holds numbered n ↔ RunsOnHost packages links id
  number_holds texts numbered one same id n at = (
    λ h. (runs_where_holds id).0 (holds_after (λ p t. StandsAt texts t p) (λ p t u. same_fact texts p t u) numbered all (back_clauses (StandsAt texts) all numbered same) n id at h),
    λ r. holds_after (StandsAt texts) one all numbered same id n at ((runs_where_holds id).1 r),
  )
