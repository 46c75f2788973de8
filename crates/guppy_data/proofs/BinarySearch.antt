-- What a binary search of a strictly sorted list answers.
use Rattle.std.proofs.Common.{◌≡◌, ◌+◌, ◌∙◌, ap, sym, refl, arith, ℕ, Bool, true, List, length, get_or, Result, Ok, Err, IsTrue, ◌↔◌, ⊎_elim}
use Rattle.std.specs.List.{Any}
use Rattle.std.specs.List.Sorted.{IsSorted, IsStrictlySortedBy, IsBinarySearchResult, IsSearchInRange}
use Rattle.std.specs.Cmp.{IsTotalOrder}
use Rattle.std.specs.Result.{is_ok}
use Rattle.std.specs.Ordering.{eq_by_cmp, is_eq, is_lt, ordering_reverse}
use Rattle.std.specs.declared.cmp.Ordering.{Ordering}
use Rattle.std.specs.declared.cmp.Ordering.TheVariants.{Less}
use Rattle.std.proofs.lemmas.List.Sorted.{searchable_from_sorted}
use Rattle.std.proofs.lemmas.Bool.{cases_lt}
use Rattle.std.proofs.lemmas.List.{get_or_default}
use Rattle.std.proofs.lemmas.Map.Keys.{Less-from_sorted}

-- a strictly sorted list is sorted
pub IsSorted-from_strictly : {K : Type 0} {R : K → K → Ordering} → IsTotalOrder R → (xs : List K) → IsStrictlySortedBy R xs → IsSorted R xs
IsSorted-from_strictly {K} {R} o xs up k d low high =
    let rises : R (get_or xs k d) (get_or xs (k + 1) d) ≡ Less = Less-from_sorted R xs k (k + 1) d up (omega arith) high in
    ap is_lt (o.antisymm (get_or xs (k + 1) d) (get_or xs k d) ∙ ap ordering_reverse rises)

-- it finds something just where an element is equal to what is sought
pub found_where_equal : {K : Type 0} {R : K → K → Ordering} {E : K → K → Bool} → IsTotalOrder R → ((x y : K) → E x y ≡ eq_by_cmp R x y) → (xs : List K) (x : K) → IsStrictlySortedBy R xs → (r : Result ℕ ℕ) → IsSearchInRange r (length xs) → IsBinarySearchResult (λ y. R y x) xs r → IsTrue (is_ok r) ↔ Any (λ y. E y x ≡ true) xs
found_where_equal {K} {R} {E} o ties xs x up (Ok i) range at =
    (λ _. (i, get_or xs i x, range, get_or_default xs i (get_or xs i x) x range, ties (get_or xs i x) x ∙ ap is_eq (at x)), λ _. refl)
found_where_equal {K} {R} {E} o ties xs x up (Err i) range at =
    let apart = at (searchable_from_sorted o (λ y. y) xs x (IsSorted-from_strictly o xs up)) in (
      λ found. absurd (cc),
      λ (k, y, below, is, equal).
          let same : is_eq (R y x) ≡ true = sym (ties y x) ∙ equal in
          ⊎_elim (λ before. absurd (cc (same, apart.0 k y (omega arith) before, is))) (λ from. absurd (cc (same, apart.1 k y from below, is))) (cases_lt k i),
    )
