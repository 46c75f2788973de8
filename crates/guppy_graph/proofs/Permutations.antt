-- Permutations of lists, some of whose elements are left out.
use Rattle.std.proofs.Common.{ℕ, zero, suc, ◌<◌, Bool, List, [], ◌∷◌, get_or, set, swap, length, arith, inl, inr}
use Rattle.std.specs.List.{filter}
use Rattle.std.specs.List.Sorted.{IsPermutation}
use Rattle.std.proofs.lemmas.Bool.{cases_Bool}
use Rattle.std.proofs.lemmas.List.Sorted.{IsPermutation-refl, IsPermutation-cons, IsPermutation-middle, IsPermutation-keeps, IsPermutation-trans}

module _ {X : Type 0} (test : X → Bool) where
  -- the elements that pass are the same in both
  abbrev PassAlike : List X → List X → Type 0
  PassAlike xs ys = IsPermutation (filter test xs) (filter test ys)

  alike_behind : (x : X) (xs ys : List X) → PassAlike xs ys → PassAlike (x ∷ xs) (x ∷ ys)
  alike_behind x xs ys h = elim (cases_Bool (test x)) [
    | inl yes_ ↦ rw yes_ (IsPermutation-cons x (filter test xs) (filter test ys) h)
    | inr no_ ↦ rw no_ h
  ]

  alike_turned : (x y : X) (xs : List X) → PassAlike (x ∷ y ∷ xs) (y ∷ x ∷ xs)
  alike_turned x y xs = elim (cases_Bool (test x)) [
    | inl x_yes ↦ elim (cases_Bool (test y)) [
      | inl y_yes ↦ rw (x_yes, y_yes) (IsPermutation-middle (x ∷ []) y (filter test xs))
      | inr y_no ↦ rw (x_yes, y_no) (IsPermutation-refl (x ∷ filter test xs))
    ]
    | inr x_no ↦ rw x_no (IsPermutation-refl (filter test (y ∷ xs)))
  ]

  chain : (xs ys zs : List X) → PassAlike xs ys → PassAlike ys zs → PassAlike xs zs
  chain xs ys zs h k = IsPermutation-trans (filter test xs) (filter test ys) (filter test zs) h k

  to_head : (l : List X) (j : ℕ) (x d : X) → j < length l → PassAlike (x ∷ l) (get_or l j d ∷ set l j x)
  to_head [] j x d h = absurd (omega arith)
  to_head (y ∷ l) zero x d h = alike_turned x y l
  to_head (y ∷ l) (suc j) x d h =
      chain (x ∷ y ∷ l) (y ∷ x ∷ l) (get_or l j d ∷ y ∷ set l j x) (alike_turned x y l)
      (chain (y ∷ x ∷ l) (y ∷ get_or l j d ∷ set l j x) (get_or l j d ∷ y ∷ set l j x)
      (alike_behind y (x ∷ l) (get_or l j d ∷ set l j x) (to_head l j x d (omega arith)))
      (alike_turned y (get_or l j d) (set l j x)))

  exchanged : (l : List X) (i j : ℕ) (d : X) → i < length l → j < length l → PassAlike l (set (set l i (get_or l j d)) j (get_or l i d))
  exchanged [] i j d p q = absurd (omega arith)
  exchanged (x ∷ l) zero zero d p q = IsPermutation-refl (filter test (x ∷ l))
  exchanged (x ∷ l) zero (suc j) d p q = to_head l j x d (omega arith)
  exchanged (x ∷ l) (suc i) zero d p q = to_head l i x d (omega arith)
  exchanged (x ∷ l) (suc i) (suc j) d p q = alike_behind x l (set (set l i (get_or l j d)) j (get_or l i d)) (exchanged l i j d (omega arith) (omega arith))

  swapped : (l : List X) (i j : ℕ) → i < length l → j < length l → PassAlike l (swap l i j)
  swapped [] i j p q = absurd (omega arith)
  swapped (x ∷ l) i j p q = exchanged (x ∷ l) i j x p q

  -- a permutation's elements that pass are a permutation of those that pass
  pub IsPermutation-filter : (xs ys : List X) → IsPermutation xs ys → PassAlike xs ys
  IsPermutation-filter xs = IsPermutation-keeps xs (PassAlike xs) (IsPermutation-refl (filter test xs))
      (λ l i j p q h. chain xs l (swap l i j) h (swapped l i j p q))
