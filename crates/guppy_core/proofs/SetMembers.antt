-- The members of a set in a list of positions.
use Rattle.std.proofs.Common.{◌≡◌, ◌⊎◌, ◌↔◌, ℕ, suc, zero, ◌+◌, ◌<◌, Bool, true, false, inl, inr, List, [], ◌∷◌, ◌++◌, length, reverse, refl, sym, ap, ◌∙◌, subst, arith, Some, cond}
use Rattle.std.specs.Prelude.{All}
use Rattle.std.specs.List.{filter}
use Rattle.std.proofs.Math.ListN.{set}
use Rattle.std.proofs.lemmas.List.{get_or-set_same, get_or-set_other, length-reverse, reverse-append, append-nil}
use Rattle.std.proofs.lemmas.List.Elements.{filter-append}
use Rattle.std.proofs.lemmas.Option.{slice_get-get_or}
use Rattle.guppy_search.specs.declared.ix.direction.DependencyDirection.{DependencyDirection}
use Rattle.guppy_search.specs.declared.ix.direction.DependencyDirection.TheVariants.{Forward, Reverse}
use Rattle.guppy_search.specs.IxSet.{has, IsIn, member_count}
use Rattle.guppy_core.specs.Listing.{Stands, IsOnce, IsListing}
use Rattle.guppy_core.specs.Sccs.{listed}
use Rattle.guppy_search.proofs.Members.{IsIn-below}
use Rattle.guppy_core.proofs.Listings.{at_reversed, stands_reversed, reversed_stands}

last_kept : {X : Type 0} (b : Bool) (x : X) (ys : List X) → reverse ys ++ cond b (x ∷ []) [] ≡ reverse (cond b (x ∷ ys) ys)
last_kept true x ys = sym (reverse-append (x ∷ []) ys)
last_kept false x ys = append-nil (reverse ys)

-- a list from its end, kept to a test
pub filter-reverse : {X : Type 0} (p : X → Bool) (xs : List X) → filter p (reverse xs) ≡ reverse (filter p xs)
filter-reverse p [] = refl
filter-reverse p (x ∷ xs) =
    ap (filter p) (reverse-append (x ∷ []) xs)
    ∙ (filter-append p (reverse xs) (x ∷ [])
    ∙ (ap (λ ys. ys ++ cond (p x) (x ∷ []) []) (filter-reverse p xs) ∙ last_kept (p x) x (filter p xs)))

-- a list that is turned round is filtered as the list is
pub filter-listed : (d : DependencyDirection) (p : ℕ → Bool) (xs : List ℕ) → filter p (listed d xs) ≡ listed d (filter p xs)
filter-listed Forward p xs = refl
filter-listed Reverse p xs = filter-reverse p xs

pub length-listed : (d : DependencyDirection) (xs : List ℕ) → length (listed d xs) ≡ length xs
length-listed Forward xs = refl
length-listed Reverse xs = length-reverse xs

stands_listed : (d : DependencyDirection) (xs : List ℕ) (x : ℕ) → Stands (listed d xs) x → Stands xs x
stands_listed Forward xs x s = s
stands_listed Reverse xs x s = stands_reversed xs x s

-- the positions of a listing are below its count, in each direction
pub below_listed : (d : DependencyDirection) (n : ℕ) (xs : List ℕ) → IsListing n xs → All (λ p. p < n) (listed d xs)
below_listed d n xs is k e h =
    let s = stands_listed d xs _ (k, slice_get-get_or (listed d xs) k e h) in
    is.below s.0 _ s.1

no_member : (s : List Bool) → ((p : ℕ) → IsIn s p → ⊥) → member_count s ≡ 0
no_member [] none = refl
no_member (true ∷ s) none = absurd (none 0 refl)
no_member (false ∷ s) none = no_member s (λ p h. none (suc p) h)

-- one member less
member_count-unset : (s : List Bool) (p : ℕ) → IsIn s p → member_count s ≡ member_count (set s p false) + 1
member_count-unset [] p h = absurd (cc)
member_count-unset (true ∷ s) zero h = omega arith
member_count-unset (false ∷ s) zero h = absurd (cc)
member_count-unset (true ∷ s) (suc p) h = omega (arith, member_count-unset s p h)
member_count-unset (false ∷ s) (suc p) h = member_count-unset s p h

-- tests that agree at each element keep the same
filter_alike : (p q : ℕ → Bool) (xs : List ℕ) → ((x : ℕ) → Stands xs x → p x ≡ q x) → filter p xs ≡ filter q xs
filter_alike p q [] same = refl
filter_alike p q (x ∷ xs) same =
    ap (λ b. cond b (x ∷ filter p xs) (filter p xs)) (same x (0, refl))
    ∙ ap (λ ys. cond (q x) (x ∷ ys) ys) (filter_alike p q xs (λ y s. same y (suc s.0, s.1)))

-- what does not pass is left out
pub filter_skips : (p : ℕ → Bool) (x : ℕ) (xs : List ℕ) → p x ≡ false → filter p (x ∷ xs) ≡ filter p xs
filter_skips p x xs h = ap (λ b. cond b (x ∷ filter p xs) (filter p xs)) h

once_tail : (x : ℕ) (xs : List ℕ) → IsOnce (x ∷ xs) → IsOnce xs
once_tail x xs once i j y p q = let e = once (suc i) (suc j) y p q in omega arith

apart_head : (x : ℕ) (xs : List ℕ) → IsOnce (x ∷ xs) → (y : ℕ) → Stands xs y → y ≡ x → ⊥
apart_head x xs once y s e = absurd (let k = once 0 (suc s.0) y (ap Some (sym e)) s.1 in omega arith)

stands_tail : (x : ℕ) (xs : List ℕ) (y : ℕ) → Stands (x ∷ xs) y → (y ≡ x → ⊥) → Stands xs y
stands_tail x xs y (zero, at) other = absurd (other (cc))
stands_tail x xs y (suc i, at) other = (i, at)

count_once : (xs : List ℕ) (s : List Bool) → IsOnce xs → ((p : ℕ) → IsIn s p → Stands xs p) → length (filter (has s) xs) ≡ member_count s
count_once [] s once all = sym (no_member s (λ p h. let st = all p h in absurd (cc)))
count_once (x ∷ xs) s once all =
    (elim (has s x) as (λ b. has s x ≡ b → length (cond b (x ∷ filter (has s) xs) (filter (has s) xs)) ≡ member_count s) [
      | true ↦ λ e.
          let others : (y : ℕ) → Stands xs y → has s y ≡ has (set s x false) y = λ y st. sym (get_or-set_other s x y false false (apart_head x xs once y st)) in
          let gone : has (set s x false) x ≡ false = get_or-set_same s x false false (IsIn-below s x e) in
          let apart : (p : ℕ) → IsIn (set s x false) p → p ≡ x → ⊥ = λ p h eq. absurd (let w = subst (λ z. has (set s x false) z ≡ true) eq h in cc) in
          let rest = count_once xs (set s x false) (once_tail x xs once)
          (λ p h. stands_tail x xs p (all p (sym (get_or-set_other s x p false false (apart p h)) ∙ h)) (apart p h)) in
          let same = ap length (filter_alike (has s) (has (set s x false)) xs others) in
          let less = member_count-unset s x e in
          omega arith
      | false ↦ λ e.
          count_once xs s (once_tail x xs once)
          (λ p h. stands_tail x xs p (all p h) (λ eq. absurd (let w = subst (λ z. has s z ≡ true) eq h in cc)))
    ]) refl

-- a listing of all positions has as many of a set as the set has
pub count_listed : (d : DependencyDirection) (s : List Bool) (xs : List ℕ) → IsListing (length s) xs → length (filter (has s) (listed d xs)) ≡ member_count s
count_listed d s xs is =
    ap length (filter-listed d (has s) xs)
    ∙ (length-listed d (filter (has s) xs) ∙ count_once xs s is.once (λ p h. is.all p (IsIn-below s p h)))

-- A list kept to a test.

stands_cases : (y x : ℕ) (xs : List ℕ) → Stands (y ∷ xs) x → (y ≡ x) ⊎ Stands xs x
stands_cases y x xs (zero, at) = inl (cc)
stands_cases y x xs (suc i, at) = inr (i, at)

kept_cases : (b : Bool) (y x : ℕ) (xs : List ℕ) → Stands (cond b (y ∷ xs) xs) x → ((b ≡ true) × (y ≡ x)) ⊎ Stands xs x
kept_cases true y x xs s = elim (stands_cases y x xs s) [ inl e ↦ inl (refl, e) | inr t ↦ inr t ]
kept_cases false y x xs s = inr s

kept_first : (b : Bool) (y : ℕ) (xs : List ℕ) → b ≡ true → Stands (cond b (y ∷ xs) xs) y
kept_first true y xs h = (0, refl)
kept_first false y xs h = absurd (cc)

kept_later : (b : Bool) (y x : ℕ) (xs : List ℕ) → Stands xs x → Stands (cond b (y ∷ xs) xs) x
kept_later true y x xs s = (suc s.0, s.1)
kept_later false y x xs s = s

module _ (f : ℕ → Bool) where
  kept_back : (xs : List ℕ) (x : ℕ) → Stands (filter f xs) x → Stands xs x × (f x ≡ true)
  kept_back [] x s = absurd (cc (s.1))
  kept_back (y ∷ ys) x s = elim (kept_cases (f y) y x (filter f ys) s) [
    | inl e ↦ ((0, ap Some e.1), subst (λ z. f z ≡ true) e.1 e.0)
    | inr t ↦ let back = kept_back ys x t in ((suc back.0.0, back.0.1), back.1)
  ]

  -- who passes stays
  pub kept_there : (xs : List ℕ) (x : ℕ) → Stands xs x → f x ≡ true → Stands (filter f xs) x
  kept_there [] x s h = absurd (cc (s.1))
  kept_there (y ∷ ys) x s h = elim (stands_cases y x ys s) [
    | inl e ↦ subst (λ z. Stands (cond (f y) (y ∷ filter f ys) (filter f ys)) z) e (kept_first (f y) y (filter f ys) (subst (λ z. f z ≡ true) (sym e) h))
    | inr t ↦ kept_later (f y) y x (filter f ys) (kept_there ys x t h)
  ]

once_cons : (y : ℕ) (xs : List ℕ) → (Stands xs y → ⊥) → IsOnce xs → IsOnce (y ∷ xs)
once_cons y xs none once zero zero x p q = refl
once_cons y xs none once zero (suc j) x p q = absurd (none (j, q ∙ sym p))
once_cons y xs none once (suc i) zero x p q = absurd (none (i, p ∙ sym q))
once_cons y xs none once (suc i) (suc j) x p q = ap suc (once i j x p q)

once_kept : (b : Bool) (y : ℕ) (xs : List ℕ) → (Stands xs y → ⊥) → IsOnce xs → IsOnce (cond b (y ∷ xs) xs)
once_kept true y xs none once = once_cons y xs none once
once_kept false y xs none once = once

once_filtered : (f : ℕ → Bool) (xs : List ℕ) → IsOnce xs → IsOnce (filter f xs)
once_filtered f [] once = λ i j x p q. absurd (cc)
once_filtered f (y ∷ ys) once =
    once_kept (f y) y (filter f ys) (λ s. apart_head y ys once y (kept_back f ys y s).0 refl) (once_filtered f ys (once_tail y ys once))

once_listed : (d : DependencyDirection) (xs : List ℕ) → IsOnce xs → IsOnce (listed d xs)
once_listed Forward xs once = once
once_listed Reverse xs once = λ i j x p q.
    let a = at_reversed xs i x p in
    let b = at_reversed xs j x q in
    let same = once a.0 b.0 x a.1 b.1 in
    let left = a.2 in
    let right = b.2 in
    omega arith

listed_stands : (d : DependencyDirection) (xs : List ℕ) (x : ℕ) → Stands xs x → Stands (listed d xs) x
listed_stands Forward xs x s = s
listed_stands Reverse xs x s = reversed_stands xs x s

-- a listing of all positions that is kept to a set has the set's positions, each once
module _ (d : DependencyDirection) (s : List Bool) (xs : List ℕ) (is : IsListing (length s) xs) where
  -- the members are those of the set
  pub listed_members : (p : ℕ) → Stands (listed d (filter (has s) xs)) p ↔ IsIn s p
  listed_members p = (
    λ st. (kept_back (has s) xs p (stands_listed d (filter (has s) xs) p st)).1,
    λ h. listed_stands d (filter (has s) xs) p (kept_there (has s) xs p (is.all p (IsIn-below s p h)) h),
  )

  -- each stands once
  pub listed_once : IsOnce (listed d (filter (has s) xs))
  listed_once = once_listed d (filter (has s) xs) (once_filtered (has s) xs is.once)
