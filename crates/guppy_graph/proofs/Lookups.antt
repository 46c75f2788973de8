-- A search in an index of positions that ascends by key and then by position.
use Rattle.std.proofs.Common.{◌≡◌, ◌≢◌, ◌∙◌, sym, ap, refl, ℕ, ◌<◌, ◌≤◌, List, length, get_or, arith, Bool, true, false}
use Rattle.std.specs.List.{Contains}
use Rattle.std.specs.List.Sorted.{IsSortedBy, IsPartitionedBy, IsPartitionPoint}
use Rattle.std.specs.Cmp.{IsTotalOrder, IsStrictWeakOrder}
use Rattle.std.specs.declared.cmp.Ordering.{Ordering}
use Rattle.std.specs.declared.cmp.Ordering.TheVariants.{Less, Equal, Greater}
use Rattle.std.specs.Ordering.{is_lt, nat_cmp, on, then_cmp, ordering_then, ordering_reverse}
use Rattle.std.proofs.lemmas.Bool.Decides.{nat_tests}
use Rattle.std.proofs.lemmas.Cmp.{then_total, on_total, nat_cmp_total}
use Rattle.std.proofs.lemmas.List.Sorted.{ranks_by, sorted_far}
use Rattle.std.proofs.lemmas.List.{get_or_default}

not_true : (b : Bool) → b ≡ true → b ≡ false → {A : Type 0} → A
not_true b is_true is_false = absurd (let e : true ≡ false = sym is_true ∙ is_false in cc)

true_unless : (b : Bool) → (b ≡ false → ⊥) → b ≡ true
true_unless true h = refl
true_unless false h = absurd (h refl)

pub le_by_number : (a b : ℕ) → is_lt (nat_cmp b a) ≡ false → a ≤ b
le_by_number a b h = grind (arith, nat_tests)

pub not_less : (v : Ordering) (n : Ordering) → is_lt (ordering_then v n) ≡ false → is_lt v ≡ false
not_less Less n h = h
not_less Equal n h = refl
not_less Greater n h = refl

pub equal_of_both : (v : Ordering) → is_lt v ≡ false → is_lt (ordering_reverse v) ≡ false → v ≡ Equal
equal_of_both Less h k = absurd (cc)
equal_of_both Equal h k = refl
equal_of_both Greater h k = absurd (cc)

module _ {K : Type 0} {R : K → K → Ordering} (o : IsTotalOrder R) where
  le_then_lt : (x y z : K) → is_lt (R y x) ≡ false → is_lt (R y z) ≡ true → is_lt (R x z) ≡ true
  le_then_lt x y z h k =
      let w = ranks_by o (λ (a : K). a) in
      true_unless (is_lt (R x z)) (λ e. not_true _ k (w.chain y x z h e))

  module _ (key : ℕ → K) where
    abbrev pub Before : ℕ → ℕ → Bool
    Before a b = is_lt (then_cmp (on key R) nat_cmp a b)

    pub before_order : IsStrictWeakOrder Before
    before_order = ranks_by (then_total (on_total key o) nat_cmp_total) (λ a. a)

    pub partitioned : (x : K) (index : List ℕ) → IsSortedBy Before index → IsPartitionedBy (λ p. is_lt (R (key p) x)) index
    partitioned x index up i j d le within h =
        le_then_lt (key (get_or index i d)) (key (get_or index j d)) x (not_less _ _ (sorted_far Before before_order index up i j d le within)) h

    module _ (x : K) (index : List ℕ) (place : ℕ) (parts : IsPartitionPoint (λ p. is_lt (R (key p) x) ≡ true) (λ p. is_lt (R (key p) x) ≡ false) index place) where
      -- a position that ties with x stands from the place on
      pub tied_later : (q : ℕ) → Contains index q → R (key q) x ≡ Equal → (j : ℕ) × (place ≤ j) × (j < length index) × (get_or index j q ≡ q)
      tied_later q (j, within, at) tie =
          let early : j < place → ⊥ = λ h.
          let less = parts.0 j q (omega arith) h in
          let less-q : is_lt (R (key q) x) ≡ true = rw at at less in
          not_true _ less-q (rw tie) in
          (j, omega arith, within, at)

      pub none_left : length index ≤ place → (q : ℕ) → Contains index q → R (key q) x ≡ Equal → ⊥
      none_left past q there tie =
          let t = tied_later q there tie in
          absurd (omega arith)

      module _ (up : IsSortedBy Before index) (first : ℕ) (inside : place < length index) (is : first ≡ get_or index place 0) where
        after : (j q : ℕ) → place ≤ j → j < length index → get_or index j q ≡ q → Before q first ≡ false
        after j q le within at =
            let far = sorted_far Before before_order index up place j q le within in
            let same : get_or index place q ≡ first = get_or_default index place q 0 inside ∙ sym is in
            rw (at, same) at far

        -- the first position that ties with x is the lowest
        pub first_tied : R (key first) x ≡ Equal → (q : ℕ) → Contains index q → R (key q) x ≡ Equal → first ≤ q
        first_tied found q there tie =
            let t = tied_later q there tie in
            let far = after t.0 q t.1 t.2 t.3 in
            let same : R (key q) (key first) ≡ Equal =
            o.congr (key q) x (key first) tie ∙ (o.antisymm x (key first) ∙ ap ordering_reverse found) in
            le_by_number first q (rw same at far)

        pub untied : (R (key first) x ≢ Equal) → (q : ℕ) → Contains index q → R (key q) x ≡ Equal → ⊥
        untied differs q there tie =
            let t = tied_later q there tie in
            let far : is_lt (R (key q) (key first)) ≡ false = not_less (R (key q) (key first)) (nat_cmp q first) (after t.0 q t.1 t.2 t.3) in
            let back : is_lt (R x (key first)) ≡ false = rw (o.congr (key q) x (key first) tie) at far in
            let ahead : is_lt (R (key first) x) ≡ false = rw is (parts.1 place 0 (omega arith) inside) in
            differs (equal_of_both (R (key first) x) ahead (rw (o.antisymm x (key first)) at back))
