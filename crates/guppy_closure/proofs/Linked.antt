-- The places of facts in bodies, as they are added.
use Rattle.std.proofs.Common.{◌≡◌, ◌⊎◌, ⊎_elim, ℕ, suc, zero, ◌+◌, ◌*◌, ◌/◌, ◌<◌, ◌≤◌, List, [], ◌∷◌, ◌++◌, length, get_or, replicate, Option, Some, None, inl, inr, refl, sym, ap, ◌∙◌, subst, arith, length-append}
use Rattle.std.specs.Prelude.{slice_get, Contains}
use Rattle.std.proofs.Math.ListN.{set, length-set, length-replicate}
use Rattle.std.proofs.lemmas.Bool.Decides.{nat_tests}
use Rattle.std.proofs.lemmas.Bool.{cases_eq, cases_lt}
use Rattle.std.proofs.lemmas.List.{get_or_append_left, get_or_push, get_or-set_same, get_or-set_other, get_or_past, get_or-replicate}
use Rattle.guppy_search.proofs.Lists.{Contains-first, Contains-later}
use Rattle.guppy_closure.specs.declared.clause.Clause.{Clause}
use Rattle.guppy_closure.specs.Clauses.{InBody}
use Rattle.guppy_closure.specs.Places.{slots, Leads, IsRow, AreLinked}
use Rattle.guppy_closure.specs.Counts.{one_is, fact_count}

-- what stands in a list with one more element behind
pub slice_get-push_cases : {X : Type 0} (xs : List X) (x : X) (p : ℕ) (y : X) → slice_get (xs ++ x ∷ []) p ≡ Some y → (slice_get xs p ≡ Some y) ⊎ ((p ≡ length xs) × (x ≡ y))
slice_get-push_cases [] x zero y e = inr (refl, cc)
slice_get-push_cases [] x (suc p) y e = absurd (cc)
slice_get-push_cases (z ∷ xs) x zero y e = inl e
slice_get-push_cases (z ∷ xs) x (suc p) y e = elim (slice_get-push_cases xs x p y e) [
  | inl before ↦ inl before
  | inr last ↦ inr (ap suc last.0, last.1)
]

pub one_is-same : (f : ℕ) → one_is f (Some f) ≡ 1
one_is-same f = grind (arith, nat_tests)

pub one_is-other : (f : ℕ) (fact : Option ℕ) → (fact ≡ Some f → ⊥) → one_is f fact ≡ 0
one_is-other f None other = refl
one_is-other f (Some g) other = ⊎_elim
    (λ e. absurd (other (ap Some e)))
    (λ e. grind (arith, nat_tests))
    (cases_eq g f)

fact_count-push : (facts : List (Option ℕ)) (fact : Option ℕ) (f : ℕ) → fact_count (facts ++ fact ∷ []) f ≡ fact_count facts f + one_is f fact
fact_count-push [] fact f = omega arith
fact_count-push (x ∷ facts) fact f = let rest = fact_count-push facts fact f in omega arith

-- with more places behind, a mark leads to the same ones
Leads-more : (earlier more : List ℕ) (mark : ℕ) (places : List ℕ) → Leads earlier mark places → Leads (earlier ++ more) mark places
Leads-more earlier more mark [] h = h
Leads-more earlier more mark (p ∷ places) h =
    let same : get_or (earlier ++ more) p 0 ≡ get_or earlier p 0 = get_or_append_left earlier more 0 p h.1 in
    let inside = h.1 in
    let low = h.2 in (
      h.0,
      simp length-append (omega arith),
      rw same low,
      rw same (Leads-more earlier more (get_or earlier p 0) places h.3),
    )

-- and it is no more than there are
Leads-low : (earlier : List ℕ) (mark : ℕ) (places : List ℕ) → Leads earlier mark places → mark ≤ length earlier
Leads-low earlier mark [] h = omega arith
Leads-low earlier mark (p ∷ places) h = let at = h.0 in let inside = h.1 in omega arith

module _ (facts : List (Option ℕ)) (earlier : List ℕ) (f mark : ℕ) where
  -- one more place, which has another fact or none
  row_other : (fact : Option ℕ) (e : ℕ) → (fact ≡ Some f → ⊥) → IsRow facts earlier f mark → IsRow (facts ++ fact ∷ []) (earlier ++ e ∷ []) f mark
  row_other fact e other r = record {
    places = r.places;
    leads = Leads-more earlier (e ∷ []) mark r.places r.leads;
    all = λ p found. elim (slice_get-push_cases facts fact p (Some f) found) [
      | inl before ↦ r.all p before
      | inr last ↦ absurd (other last.1)
    ];
    count = let more = fact_count-push facts fact f in let none = one_is-other f fact other in let count = r.count in omega arith;
  }

  -- one more place with the fact
  row_same : length earlier ≡ length facts → IsRow facts earlier f mark → IsRow (facts ++ Some f ∷ []) (earlier ++ mark ∷ []) f (length earlier + 1)
  row_same size r =
      let same : get_or (earlier ++ mark ∷ []) (length earlier) 0 ≡ mark = get_or_push earlier mark 0 (length earlier) refl in
      let low = Leads-low earlier mark r.places r.leads in
      record {
        places = length earlier ∷ r.places;
        leads = (refl, simp length-append (omega arith), rw same low, rw same (Leads-more earlier (mark ∷ []) mark r.places r.leads));
        all = λ p found. elim (slice_get-push_cases facts (Some f) p (Some f) found) [
          | inl before ↦ Contains-later (length earlier) p r.places (r.all p before)
          | inr last ↦ let e : length earlier ≡ p = size ∙ sym last.0 in subst (Contains (length earlier ∷ r.places)) e (Contains-first (length earlier) r.places)
        ];
        count = let more = fact_count-push facts (Some f) f in let one = one_is-same f in let count = r.count in omega arith;
      }

-- there is no place yet
pub linked_none : (count : ℕ) → AreLinked [] (replicate count 0) []
linked_none count = record {
  size = refl;
  rows = λ f inside. record {
    places = [];
    leads = ⊎_elim (λ low. get_or-replicate count f 0 0 low) (λ high. get_or_past (replicate count 0) f 0 (simp length-replicate high)) (cases_lt f count);
    all = λ p found. absurd (cc);
    count = refl;
  };
}

module _ (facts : List (Option ℕ)) (last earlier : List ℕ) where
  -- a place with no fact is added
  pub linked_skip : AreLinked facts last earlier → AreLinked (facts ++ None ∷ []) last (earlier ++ 0 ∷ [])
  linked_skip a = record {
    size = let size = a.size in simp length-append (omega arith);
    rows = λ f inside. row_other facts earlier f (get_or last f 0) None 0 (λ e. cc) (a.rows f inside);
  }

  -- a place with a fact
  pub linked_more : (g : ℕ) → g < length last → AreLinked facts last earlier → AreLinked (facts ++ Some g ∷ []) (set last g (length earlier + 1)) (earlier ++ get_or last g 0 ∷ [])
  linked_more g low a = record {
    size = let size = a.size in simp length-append (omega arith);
    rows = λ f inside. ⊎_elim
        (λ e.
        subst (λ (k : ℕ). IsRow (facts ++ Some g ∷ []) (earlier ++ get_or last g 0 ∷ []) k (get_or (set last g (length earlier + 1)) k 0)) (sym e)
        (rw (get_or-set_same last g (length earlier + 1) 0 low) (row_same facts earlier g (get_or last g 0) a.size (a.rows g low))))
        (λ other.
        let inside' : f < length last = rw length-set at inside in
        let same : get_or (set last g (length earlier + 1)) f 0 ≡ get_or last f 0 = get_or-set_other last g f (length earlier + 1) 0 other in
        rw same (row_other facts earlier f (get_or last f 0) (Some g) (get_or last g 0) (λ e. other (cc)) (a.rows f inside')))
        (cases_eq f g);
  }

pub slots-push : (cs : List (Clause ℕ)) (c : Clause ℕ) → slots (cs ++ c ∷ []) ≡ (slots cs ++ c.first ∷ []) ++ c.second ∷ []
slots-push [] c = refl
slots-push (d ∷ cs) c = ap (λ ss. d.first ∷ d.second ∷ ss) (slots-push cs c)

pub length-slots : (cs : List (Clause ℕ)) → length (slots cs) ≡ 2 * length cs
length-slots [] = refl
length-slots (c ∷ cs) = let rest = length-slots cs in omega arith

-- a fact of a body has a place in its clause
pub slots_at : (cs : List (Clause ℕ)) (n : ℕ) (c : Clause ℕ) (b : ℕ) → slice_get cs n ≡ Some c → InBody c b → (p : ℕ) × (slice_get (slots cs) p ≡ Some (Some b)) × (p / 2 ≡ n)
slots_at [] n c b found i = absurd (cc)
slots_at (d ∷ cs) zero c b found i =
    let same : c ≡ d = cc in
    elim (subst (λ (z : Clause ℕ). InBody z b) same i) [
      | inl e ↦ (0, ap Some e, refl)
      | inr e ↦ (1, ap Some e, refl)
    ]
slots_at (d ∷ cs) (suc n) c b found i =
    let rest = slots_at cs n c b found i in
    let half = rest.2 in
    (suc (suc rest.0), rest.1, omega arith)
