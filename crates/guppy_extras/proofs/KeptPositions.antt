-- Positions that are kept of a list, in its order.
use Rattle.std.proofs.Common.{◌≡◌, ◌↔◌, ℕ, ◌+◌, ◌<◌, ◌≤◌, List, [], ◌∷◌, ◌++◌, length, inl, inr, sym, subst, arith, ⊎_elim, Some}
use Rattle.std.specs.Prelude.{slice_get}
use Rattle.std.proofs.lemmas.Bool.{cases_lt}
use Rattle.std.proofs.lemmas.Option.{slice_get_within}
use Rattle.guppy_core.specs.Listing.{Stands, StandsBefore, IsOnce, Precedes}
use Rattle.guppy_core.proofs.Places.{at_cases, stands_left, stands_last, stands_cases}

module _ (list : List ℕ) (P : ℕ → Type 0) where
  -- of those before the place, the positions at which P holds, in their order
  pub record IsKept (place : ℕ) (order : List ℕ) : Type 0 where
    pub members : (p : ℕ) → Stands order p ↔ (StandsBefore list place p × P p)
    pub in_turn : (x y : ℕ) → Precedes order x y → Precedes list x y

  pub kept_none : IsKept 0 []
  kept_none = record {
    members = λ p. (λ (i, at). absurd (cc), λ ((i, before, at), holds). absurd (omega arith));
    in_turn = λ x y (i, j, less, at_x, at_y). absurd (cc);
  }

  module _ (place : ℕ) (order : List ℕ) (was : IsKept place order) (p : ℕ) (at : slice_get list place ≡ Some p) where
    later : (q : ℕ) → StandsBefore list place q → StandsBefore list (place + 1) q
    later q (i, before, at_q) = (i, omega arith, at_q)

    is_last : (i q : ℕ) → place ≤ i → i < place + 1 → slice_get list i ≡ Some q → q ≡ p
    is_last i q least most at_q =
        let same : i ≡ place = omega arith in
        let here : slice_get list place ≡ Some q = subst (λ k. slice_get list k ≡ Some q) same at_q in
        cc (here, at)

    -- one more at which P holds
    pub kept_more : P p → IsKept (place + 1) (order ++ p ∷ [])
    kept_more holds = record {
      members = λ q. (
        λ s. elim (stands_cases order p q s) [
          | inl old ↦ (let was_there = (was.members q).0 old in (later q was_there.0, was_there.1))
          | inr same ↦ ((place, omega arith, subst (λ k. slice_get list place ≡ Some k) (sym same) at), subst P (sym same) holds)
        ],
        λ ((i, before, at_q), holds_q). ⊎_elim
            (λ (less : i < place). stands_left order p q ((was.members q).1 ((i, less, at_q), holds_q)))
            (λ (least : place ≤ i). stands_last order p q (is_last i q least before at_q))
            (cases_lt i place),
      );
      in_turn = λ x y (i, j, less, at_x, at_y). elim (at_cases order p i x at_x) [
        | inl old_x ↦ elim (at_cases order p j y at_y) [
          | inl old_y ↦ was.in_turn x y (i, j, less, old_x, old_y)
          | inr new_y ↦
              let there = ((was.members x).0 (i, old_x)).0 in
              (there.0, place, there.1, there.2, subst (λ k. slice_get list place ≡ Some k) (sym new_y.1) at)
        ]
        | inr new_x ↦ elim (at_cases order p j y at_y) [
          | inl old_y ↦ absurd (let within = slice_get_within order j y old_y in let e : i ≡ length order = new_x.0 in omega arith)
          | inr new_y ↦ absurd (let e : i ≡ length order = new_x.0 in let f : j ≡ length order = new_y.0 in omega arith)
        ]
      ];
    }

    -- one more at which it doesn't
    pub kept_skip : (P p → ⊥) → IsKept (place + 1) order
    kept_skip fails = record {
      members = λ q. (
        λ s. (let was_there = (was.members q).0 s in (later q was_there.0, was_there.1)),
        λ ((i, before, at_q), holds_q). ⊎_elim
            (λ (less : i < place). (was.members q).1 ((i, less, at_q), holds_q))
            (λ (least : place ≤ i). absurd (fails (subst P (is_last i q least before at_q) holds_q)))
            (cases_lt i place),
      );
      in_turn = was.in_turn;
    }

  module _ (place : ℕ) (order : List ℕ) (was : IsKept place order) where
    never_twice : IsOnce list → (i j x : ℕ) → i < j → slice_get order i ≡ Some x → slice_get order j ≡ Some x → ⊥
    never_twice once i j x less at_i at_j =
        let twice = was.in_turn x x (i, j, less, at_i, at_j) in
        let same = once twice.0 twice.1 x twice.3 twice.4 in
        let apart = twice.2 in
        omega arith

    -- what stands once in the list is kept once
    pub kept_once : IsOnce list → IsOnce order
    kept_once once i j x at_i at_j = ⊎_elim
        (λ (less : i < j). absurd (never_twice once i j x less at_i at_j))
        (λ (most : j ≤ i). ⊎_elim
        (λ (less : j < i). absurd (never_twice once j i x less at_j at_i))
        (λ (least : i ≤ j). omega arith)
        (cases_lt j i))
        (cases_lt i j)

    -- behind the last place all are kept at which P holds
    pub kept_all : length list ≤ place → (p : ℕ) → Stands order p ↔ (Stands list p × P p)
    kept_all past p = (
      λ s. (let there = (was.members p).0 s in ((there.0.0, there.0.2), there.1)),
      λ ((i, at), holds). (was.members p).1 ((i, (let within = slice_get_within list i p at in omega arith), at), holds),
    )
