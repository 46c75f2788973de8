-- What positions cost, and what a search still costs.
use Rattle.std.proofs.Common.{◌≡◌, ℕ, suc, zero, ◌+◌, ◌<◌, ◌≤◌, Bool, true, false, cond, List, [], ◌∷◌, ◌++◌, length, replicate, refl, sym, ap, arith, ⊎_elim, Some}
use Rattle.std.proofs.Math.ListN.{set}
use Rattle.std.specs.Prelude.{◌==◌, ◌↔◌, slice_get, All}
use Rattle.std.proofs.lemmas.Bool.{eqb-true, eqb-false, cases_lt}
use Rattle.std.proofs.lemmas.Option.{slice_get_within, get_or_from_slice_get}
use Rattle.guppy_search.specs.declared.ix.direction.DependencyDirection.{DependencyDirection}
use Rattle.guppy_search.specs.declared.graph_core.link.Link.{Link}
use Rattle.guppy_search.specs.Links.{near_end, numbers_where, links_at, EndsBelow}
use Rattle.guppy_search.specs.IxSet.{has}
use Rattle.guppy_search.proofs.Rows.{near_end_below}
use Rattle.guppy_core.specs.Mark.{Marks}
use Rattle.guppy_core.specs.Cost.{missing_cost, AreLookedAt}

module _ (cost : ℕ → ℕ) where
  -- what the positions of a list cost
  abbrev pub cost_of : List ℕ → ℕ
  cost_of [] = 0
  cost_of (x ∷ xs) = cost x + cost_of xs

  pub cost_of-push : (xs : List ℕ) (x : ℕ) → cost_of (xs ++ x ∷ []) ≡ cost_of xs + cost x
  cost_of-push [] x = omega arith
  cost_of-push (y ∷ xs) x = omega (arith, cost_of-push xs x)

  pub missing_cost-set : (i : ℕ) (s : List Bool) (p n : ℕ) → n ≡ i + p → p < length s → has s p ≡ false → missing_cost cost i (set s p true) + cost n ≡ missing_cost cost i s
  missing_cost-set i [] p n same h lacks = absurd (omega arith)
  missing_cost-set i (true ∷ s) zero n same h lacks = absurd (cc)
  missing_cost-set i (false ∷ s) zero n same h lacks = let e : n ≡ i = omega arith in rw e (omega arith)
  missing_cost-set i (true ∷ s) (suc p) n same h lacks =
      let h' : p < length s = omega arith in
      let same' : n ≡ i + 1 + p = omega arith in
      missing_cost-set (i + 1) s p n same' h' lacks
  missing_cost-set i (false ∷ s) (suc p) n same h lacks =
      let h' : p < length s = omega arith in
      let same' : n ≡ i + 1 + p = omega arith in
      omega (arith, missing_cost-set (i + 1) s p n same' h' lacks)

  -- what is still to be paid
  abbrev pub owed : List Bool → List ℕ → ℕ
  owed seen stack = missing_cost cost 0 seen + cost_of stack

  -- a mark moves a position's cost from the one sum to the other
  pub owed-mark : (p : ℕ) (seen : List Bool) (stack : List ℕ) (seen' : List Bool) (stack' : List ℕ) → p < length seen → Marks p seen stack seen' stack' → owed seen' stack' ≡ owed seen stack
  owed-mark p seen stack seen' stack' h m =
      ⊎_elim
      (λ e. rw (e.1, e.2) refl)
      (λ e. rw (e.1, e.2) (let same : p ≡ 0 + p = omega arith in let a = missing_cost-set 0 seen p p same h e.0 in let b = cost_of-push stack p in omega arith))
      m

  -- the sum of the costs of n positions from i on
  abbrev pub cost_from : ℕ → ℕ → ℕ
  cost_from i zero = 0
  cost_from i (suc n) = cost i + cost_from (i + 1) n

  -- no position is missing from a set of all
  pub none_missing : (i : ℕ) (s : List Bool) → ((p : ℕ) → p < length s → has s p ≡ true) → missing_cost cost i s ≡ 0
  none_missing i [] all = refl
  none_missing i (true ∷ s) all = none_missing (i + 1) s (λ p h. all (suc p) (omega arith))
  none_missing i (false ∷ s) all = absurd (let a = all zero (omega arith) in cc)

  pub missing_cost-replicate : (i n : ℕ) → missing_cost cost i (replicate n false) ≡ cost_from i n
  missing_cost-replicate i zero = refl
  missing_cost-replicate i (suc n) = ap (λ m. cost i + m) (missing_cost-replicate (i + 1) n)

abbrev one_at : ℕ → ℕ → ℕ
one_at x p = cond (x == p) 1 0

-- one position is x
one_at_past : (x i n : ℕ) → x < i → cost_from (one_at x) i n ≡ 0
one_at_past x i zero h = refl
one_at_past x i (suc n) h =
    elim (x == i) as (λ b. (x == i) ≡ b → cond b 1 0 + cost_from (one_at x) (i + 1) n ≡ 0) [
      | true ↦ λ e. absurd (let s = eqb-true x i e in omega arith)
      | false ↦ λ e. let h' : x < i + 1 = omega arith in omega (arith, one_at_past x (i + 1) n h')
    ] refl

one_at_once : (x i n : ℕ) → i ≤ x → x < i + n → cost_from (one_at x) i n ≡ 1
one_at_once x i zero h k = absurd (omega arith)
one_at_once x i (suc n) h k =
    elim (x == i) as (λ b. (x == i) ≡ b → cond b 1 0 + cost_from (one_at x) (i + 1) n ≡ 1) [
      | true ↦ λ e. let s = eqb-true x i e in let h' : x < i + 1 = omega arith in omega (arith, one_at_past x (i + 1) n h')
      | false ↦ λ e.
          let h' : i + 1 ≤ x = ⊎_elim (λ less. omega arith) (λ ge. absurd (eqb-false x i e (omega arith))) (cases_lt i x) in
          let k' : x < i + 1 + n = omega arith in
          omega (arith, one_at_once x (i + 1) n h' k')
    ] refl

module _ {A : Type 0} (key : A → ℕ) where
  -- the number of those with the key p
  abbrev pub tally : List A → ℕ → ℕ
  tally [] p = 0
  tally (x ∷ xs) p = one_at (key x) p + tally xs p

  pub length-numbers_where : (i : ℕ) (xs : List A) (p : ℕ) → length (numbers_where (λ x. key x == p) i xs) ≡ tally xs p
  length-numbers_where i [] p = refl
  length-numbers_where i (x ∷ xs) p =
      let rest = length-numbers_where (i + 1) xs p in
      let ns = numbers_where (λ x. key x == p) (i + 1) xs in
      elim (key x == p) as (λ b. length (cond b (i ∷ ns) ns) ≡ cond b 1 0 + tally xs p) [ true ↦ omega arith | false ↦ omega arith ]

  split : (f h k : ℕ → ℕ) → ((p : ℕ) → f p ≡ h p + k p) → (i n : ℕ) → cost_from f i n ≡ cost_from h i n + cost_from k i n
  split f h k e i zero = omega arith
  split f h k e i (suc n) = let a = e i in omega (arith, split f h k e (i + 1) n)

  no_tally : (i n : ℕ) → cost_from (tally []) i n ≡ 0
  no_tally i zero = refl
  no_tally i (suc n) = omega (arith, no_tally (i + 1) n)

  -- where all keys are below n, the tallies are as many as the elements
  pub tallies : (xs : List A) (n : ℕ) → ((k : ℕ) (x : A) → slice_get xs k ≡ Some x → key x < n) → cost_from (tally xs) 0 n ≡ length xs
  tallies [] n below = no_tally 0 n
  tallies (x ∷ xs) n below =
      let s = split (tally (x ∷ xs)) (one_at (key x)) (tally xs) (λ p. refl) 0 n in
      let low = below zero x refl in
      let a = one_at_once (key x) 0 n (omega arith) (omega arith) in
      let b = tallies xs n (λ k y e. below (suc k) y e) in
      omega arith

  same_cost : (f h : ℕ → ℕ) → ((p : ℕ) → f p ≡ h p) → (i n : ℕ) → cost_from f i n ≡ cost_from h i n
  same_cost f h e i zero = refl
  same_cost f h e i (suc n) = let a = e i in omega (arith, same_cost f h e (i + 1) n)

-- how many links are at a position
abbrev pub degree : {E : Type 0} → DependencyDirection → List (Link E) → ℕ → ℕ
degree d links p = length (links_at d links p)

-- at first each link is owed
pub owed_first : {E : Type 0} (d : DependencyDirection) (links : List (Link E)) (n : ℕ) → All (EndsBelow n) links → owed (degree d links) (replicate n false) [] ≡ length links
owed_first {E} d links n ends =
    let key : Link E → ℕ = λ l. near_end d l in
    let a = missing_cost-replicate (degree d links) 0 n in
    let b = same_cost key (degree d links) (tally key links) (λ p. length-numbers_where key 0 links p) 0 n in
    let c = tallies key links n (λ k l found. near_end_below d links n k l ends (slice_get_within links k l found) (sym (get_or_from_slice_get links k l l found))) in
    omega arith

-- a pop takes a position's cost off
pub owed-pop : (cost : ℕ → ℕ) (seen : List Bool) (stack stack' : List ℕ) (x : ℕ) → stack ≡ stack' ++ x ∷ [] → owed cost seen stack ≡ owed cost seen stack' + cost x
owed-pop cost seen stack stack' x e = rw e (let p = cost_of-push cost stack' x in omega arith)

-- the sums, in a loop over the row of a popped position
pub row_paid : (looks k before popped deg owing looked limit : ℕ) → before ≡ popped + deg → looks + before ≡ limit → owing ≡ popped → looked ≡ looks + k → k ≤ deg → deg ≤ k → looked + owing ≡ limit
row_paid looks k before popped deg owing looked limit a b c d e f = omega arith

pub row_room : (looks k before popped deg owing looked limit : ℕ) → before ≡ popped + deg → looks + before ≡ limit → owing ≡ popped → looked ≡ looks + k → k < deg → looked + 1 ≤ limit
row_room looks k before popped deg owing looked limit a b c d e = omega arith

pub fits_below : (a b : ℕ) → a ≤ b → b < 18446744073709551616 → a < 18446744073709551616
fits_below a b h k = omega arith

pub fits_same : (a b : ℕ) → a ≡ b → b < 18446744073709551616 → a < 18446744073709551616
fits_same a b h k = omega arith

pub one_more : (a b : ℕ) → (a + b) + 1 ≡ a + (b + 1)
one_more a b = omega arith

-- the same positions by another name
pub looked_same : {E : Type 0} (d : DependencyDirection) (links : List (Link E)) (n : ℕ) (P Q : ℕ → Type 0) (looks looks' : ℕ) → ((p : ℕ) → P p ↔ Q p) → AreLookedAt d links n P looks looks' → AreLookedAt d links n Q looks looks'
looked_same d links n P Q looks looks' same l = record {
  set = l.set;
  count = l.count;
  members = λ p. (λ i. (same p).0 ((l.members p).0 i), λ q. (l.members p).1 ((same p).1 q));
  looked = l.looked;
}

-- all positions are among them: each link was looked at
pub looked_all : {E : Type 0} (d : DependencyDirection) (links : List (Link E)) (n : ℕ) (P : ℕ → Type 0) (looks looks' : ℕ) → ((p : ℕ) → p < n → P p) → AreLookedAt d links n P looks looks' → looks' ≡ looks + length links
looked_all d links n P looks looks' all l =
    let none = none_missing (degree d links) 0 l.set (λ p h. (l.members p).1 (all p (let c = l.count in omega arith))) in
    let k = l.looked in
    omega arith
