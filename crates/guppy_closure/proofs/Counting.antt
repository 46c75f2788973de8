-- How often clauses are looked at, and are still to be.
use Rattle.std.proofs.Common.{◌≡◌, ◌⊎◌, ⊎_elim, ℕ, suc, zero, ◌+◌, ◌*◌, ◌<◌, ◌≤◌, Bool, true, false, List, [], ◌∷◌, ◌++◌, length, get_or, drop, Option, Some, None, inl, inr, refl, ap, arith, replicate, add-one, drop-cons}
use Rattle.std.specs.Prelude.{◌&&◌, slice_get, sum_by}
use Rattle.std.specs.Option.{is_none}
use Rattle.std.proofs.Math.ListN.{set}
use Rattle.std.proofs.lemmas.Bool.{cases_Bool, cases_eq}
use Rattle.std.proofs.lemmas.List.{get_or-set_same, get_or-set_other}
use Rattle.std.proofs.lemmas.List.Sums.{sum_by-cons}
use Rattle.guppy_search.specs.IxSet.{has}
use Rattle.guppy_search.proofs.Members.{has-replicate}
use Rattle.guppy_closure.specs.declared.clause.Clause.{Clause}
use Rattle.guppy_closure.specs.Clauses.{InBody, is_given}
use Rattle.guppy_closure.specs.Places.{slots}
use Rattle.guppy_closure.specs.Counts.{one_in, looks_of, given_count, one_is, fact_count, held_count, head_of, owed}
use Rattle.guppy_closure.proofs.Linked.{one_is-same, one_is-other}

module _ (s : List Bool) (h : ℕ) (low : h < length s) (lacks : has s h ≡ false) where
  one_in-set : (fact : Option ℕ) → one_in (set s h true) fact ≡ one_in s fact + one_is h fact
  one_in-set None = refl
  one_in-set (Some g) = ⊎_elim
      (λ e.
      let now : has (set s h true) g ≡ true = rw e (get_or-set_same s h true false low) in
      let before : has s g ≡ false = rw e lacks in
      let one : one_is h (Some g) ≡ 1 = rw e (one_is-same h) in
      rw (now, before, one) refl)
      (λ other.
      let same : has (set s h true) g ≡ has s g = get_or-set_other s h g true false other in
      let none = one_is-other h (Some g) (λ e. other (cc)) in
      rw (same, none) (omega arith))
      (cases_eq g h)

  -- a fact that is put in is held wherever it stands
  pub held_count-set : (facts : List (Option ℕ)) → held_count (set s h true) facts ≡ held_count s facts + fact_count facts h
  held_count-set [] = refl
  held_count-set (fact ∷ facts) = let one = one_in-set fact in let rest = held_count-set facts in omega arith

one_in-none : (n : ℕ) (fact : Option ℕ) → one_in (replicate n false) fact ≡ 0
one_in-none n None = refl
one_in-none n (Some f) = rw has-replicate refl

pub held_count-none : (n : ℕ) (facts : List (Option ℕ)) → held_count (replicate n false) facts ≡ 0
held_count-none n [] = refl
held_count-none n (fact ∷ facts) = let one = one_in-none n fact in let rest = held_count-none n facts in omega arith

pub head_of-found : (clauses : List (Clause ℕ)) (n : ℕ) (c : Clause ℕ) → slice_get clauses n ≡ Some c → head_of clauses n ≡ c.head
head_of-found [] n c e = absurd (cc)
head_of-found (d ∷ clauses) zero c e = let same : d ≡ c = cc in ap (λ (z : Clause ℕ). z.head) same
head_of-found (d ∷ clauses) (suc n) c e = head_of-found clauses n c e

pub owed-push : (clauses : List (Clause ℕ)) (facts : List (Option ℕ)) (ns : List ℕ) (n : ℕ) → owed clauses facts (ns ++ n ∷ []) ≡ owed clauses facts ns + fact_count facts (head_of clauses n)
owed-push clauses facts [] n = omega arith
owed-push clauses facts (m ∷ ns) n = let rest = owed-push clauses facts ns n in omega arith

one_in-few : (s : List Bool) (fact : Option ℕ) → one_in s fact ≤ 1
one_in-few s None = omega arith
one_in-few s (Some f) = elim (cases_Bool (has s f)) [
  | inl e ↦ rw e (omega arith)
  | inr e ↦ rw e (omega arith)
]

given_in : (s : List Bool) (c : Clause ℕ) → is_given c ≡ true → one_in s c.first + one_in s c.second ≡ 0
given_in s c h = cases c.first c.second h
  where
    cases : (a b : Option ℕ) → is_none a && is_none b ≡ true → one_in s a + one_in s b ≡ 0
    cases None None h = refl
    cases None (Some f) h = absurd (cc)
    cases (Some f) b h = absurd (cc)

-- a clause that is not given has a fact in its body
pub not_given : (c : Clause ℕ) → is_given c ≡ false → (b : ℕ) × InBody c b
not_given c h = cases c.first c.second h
  where
    cases : (a d : Option ℕ) → is_none a && is_none d ≡ false → (b : ℕ) × ((a ≡ Some b) ⊎ (d ≡ Some b))
    cases None None h = absurd (cc)
    cases None (Some f) h = (f, inr refl)
    cases (Some f) d h = (f, inl refl)

-- the looks of all clauses are those of the given ones, and those of the facts of bodies
pub looks_are : (s : List Bool) (cs : List (Clause ℕ)) → sum_by (looks_of s) cs ≡ given_count cs + held_count s (slots cs)
looks_are s [] = refl
looks_are s (c ∷ cs) =
    let rest = looks_are s cs in
    rw sum_by-cons (elim (cases_Bool (is_given c)) [
      | inl given ↦ let none = given_in s c given in rw given (omega arith)
      | inr fails ↦ rw fails (omega arith)
    ])

-- and no more than two each
pub looks_few : (s : List Bool) (cs : List (Clause ℕ)) → given_count cs + held_count s (slots cs) ≤ 2 * length cs
looks_few s [] = omega arith
looks_few s (c ∷ cs) =
    let rest = looks_few s cs in
    let first = one_in-few s c.first in
    let second = one_in-few s c.second in
    elim (cases_Bool (is_given c)) [
      | inl given ↦ let none = given_in s c given in rw given (omega arith)
      | inr fails ↦ rw fails (omega arith)
    ]

-- the clause k, before those after it
pub given_next : (cs : List (Clause ℕ)) (k : ℕ) (spare : Clause ℕ) → k < length cs → is_given (get_or cs k spare) ≡ true → given_count (drop k cs) ≡ 1 + given_count (drop (k + 1) cs)
given_next cs k spare h given =
    let e : drop k cs ≡ get_or cs k spare ∷ drop (k + 1) cs = rw add-one (drop-cons cs k spare h) in
    rw (e, given) refl

pub not_given_next : (cs : List (Clause ℕ)) (k : ℕ) (spare : Clause ℕ) → k < length cs → is_given (get_or cs k spare) ≡ false → given_count (drop k cs) ≡ given_count (drop (k + 1) cs)
not_given_next cs k spare h fails =
    let e : drop k cs ≡ get_or cs k spare ∷ drop (k + 1) cs = rw add-one (drop-cons cs k spare h) in
    rw (e, fails) refl
