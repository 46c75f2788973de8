-- Indexes of positions whose keys differ ascend strictly by key.
use Rattle.std.proofs.Common.{◌≡◌, ◌∙◌, sym, subst, ap, refl, ℕ, ◌<◌, ◌+◌, List, get_or, map, arith, Option, true, false}
use Rattle.std.specs.List.{Contains, IsDistinct, range_with_len}
use Rattle.std.specs.List.Sorted.{IsStrictlySortedBy, IsStrictlyIncreasing}
use Rattle.std.specs.Cmp.{IsTotalOrder}
use Rattle.std.specs.declared.cmp.Ordering.{Ordering}
use Rattle.std.specs.declared.cmp.Ordering.TheVariants.{Less, Equal, Greater}
use Rattle.std.specs.Ordering.{is_lt, is_eq, nat_cmp, on, then_cmp, ordering_then, ordering_reverse, eq_by_cmp}
use Rattle.std.specs.Prelude.{is_some}
use Rattle.std.proofs.lemmas.Cmp.{on_total, nat_cmp_total, tied_itself}
use Rattle.std.proofs.lemmas.List.Elements.{Contains-get_or}
use Rattle.std.proofs.lemmas.List.FromFn.{length-range_with_len, get_or-range_with_len}
use Rattle.std.proofs.lemmas.List.Kept.{IsStrictlyIncreasing-filter}
use Rattle.std.proofs.lemmas.Map.Keys.{IsDistinct-from_sorted, IsDistinct-IsPermutation, apart_from_distinct, sorted_from_all_adjacent, sorted_from_strictly_increasing}
use Rattle.guppy_data.proofs.AscendingLists.{IsStrictlySortedBy-map}
use Rattle.guppy_graph.specs.Keys.{or_empty, keyed, HasKey, IsIndex, DifferBelow}
use Rattle.guppy_graph.proofs.KeyIndexes.{index_below, index_some, has_own, tie_has}

is_eq-reverse : (v : Ordering) → is_eq (ordering_reverse v) ≡ is_eq v
is_eq-reverse Less = refl
is_eq-reverse Equal = refl
is_eq-reverse Greater = refl

same_flips : (x y : ℕ) → eq_by_cmp nat_cmp x y ≡ eq_by_cmp nat_cmp y x
same_flips x y = ap is_eq (nat_cmp_total.antisymm x y) ∙ is_eq-reverse (nat_cmp y x)

range_rises : (n : ℕ) → IsStrictlyIncreasing (range_with_len 0 n)
range_rises n k within =
    let long : k + 1 < n = rw (length-range_with_len 0 n) at within in
    let here = get_or-range_with_len 0 n k 0 (omega arith) in
    let next = get_or-range_with_len 0 n (k + 1) 0 long in
    omega arith

module _ (order : List ℕ → List ℕ → Ordering) (o : IsTotalOrder order) (key_at : ℕ → Option (List ℕ)) (n : ℕ) (index : List ℕ) (up : IsIndex order key_at n index) where
  -- no position stands in an index twice
  pub index_distinct : IsDistinct (eq_by_cmp nat_cmp) index
  index_distinct = IsDistinct-IsPermutation (eq_by_cmp nat_cmp) same_flips (keyed key_at n) index up.permutation
      (IsDistinct-from_sorted nat_cmp (keyed key_at n) (sorted_from_strictly_increasing (keyed key_at n) (IsStrictlyIncreasing-filter (λ p. is_some (key_at p)) (range_with_len 0 n) (range_rises n))))

  module _ (differ : DifferBelow (HasKey order key_at) n) where
    rises : (a b : ℕ) (v : Ordering) → order (or_empty (key_at a)) (or_empty (key_at b)) ≡ v → Contains index a → Contains index b
        → is_lt (then_cmp (on (λ p. or_empty (key_at p)) order) nat_cmp b a) ≡ false → eq_by_cmp nat_cmp a b ≡ false → v ≡ Less
    rises a b Less is in_a in_b not_before apart = refl
    rises a b Equal is in_a in_b not_before apart =
        let back : order (or_empty (key_at b)) (or_empty (key_at a)) ≡ Equal = o.antisymm (or_empty (key_at b)) (or_empty (key_at a)) ∙ ap ordering_reverse is in
        let same : a ≡ b = differ a b (or_empty (key_at a)) (index_below order o key_at n index up a in_a) (index_below order o key_at n index up b in_b)
        (has_own order o key_at a (index_some order o key_at n index up a in_a))
        (tie_has order o key_at (or_empty (key_at a)) b (index_some order o key_at n index up b in_b) back) in
        let tie : eq_by_cmp nat_cmp a b ≡ true = subst (λ c. eq_by_cmp nat_cmp a c ≡ true) same (ap is_eq (tied_itself nat_cmp_total a)) in
        absurd (let e : true ≡ false = sym tie ∙ apart in cc)
    rises a b Greater is in_a in_b not_before apart =
        let back : order (or_empty (key_at b)) (or_empty (key_at a)) ≡ Less = o.antisymm (or_empty (key_at b)) (or_empty (key_at a)) ∙ ap ordering_reverse is in
        let e : is_lt (ordering_then Less (nat_cmp b a)) ≡ false = subst (λ w. is_lt (ordering_then w (nat_cmp b a)) ≡ false) back not_before in
        absurd (let f : true ≡ false = e in cc)

    -- where keys differ, the keys of an index ascend strictly
    pub index_ascends : IsStrictlySortedBy order (map (λ p. or_empty (key_at p)) index)
    index_ascends = IsStrictlySortedBy-map order (λ p. or_empty (key_at p)) index
        (sorted_from_all_adjacent (on_total (λ p. or_empty (key_at p)) o) index 0 (λ k within.
        rises (get_or index k 0) (get_or index (k + 1) 0) _ refl
        (Contains-get_or index k 0 (omega arith)) (Contains-get_or index (k + 1) 0 within)
        (up.ascends k 0 (omega arith) within)
        (apart_from_distinct (eq_by_cmp nat_cmp) index k (k + 1) 0 index_distinct (omega arith) within)))
