-- Positions of equal keys are neighbours in an index.
use Rattle.std.proofs.Common.{◌≡◌, ◌∙◌, sym, subst, ap, refl, ℕ, zero, suc, ◌<◌, ◌≤◌, ◌+◌, ◌-◌, min, ltb, List, get_or, length, arith, true, false, Option, ⊎_elim}
use Rattle.std.specs.Prelude.{slice_index, MatchOption}
use Rattle.std.specs.List.Sorted.{IsPermutation}
use Rattle.std.specs.Bool.{then_some}
use Rattle.std.specs.Cmp.{IsTotalOrder}
use Rattle.std.specs.declared.cmp.Ordering.{Ordering}
use Rattle.std.specs.declared.cmp.Ordering.TheVariants.{Less, Equal}
use Rattle.std.specs.Ordering.{is_lt, is_eq, nat_cmp, ordering_reverse, eq_by_cmp}
use Rattle.std.proofs.lemmas.Bool.{cases_lt, lt-ltb, le-ltb}
use Rattle.std.proofs.lemmas.Cmp.{nat_cmp_total, tied_itself, tied_back}
use Rattle.std.proofs.lemmas.List.{get_or_default}
use Rattle.std.proofs.lemmas.List.Elements.{Contains-get_or}
use Rattle.std.proofs.lemmas.List.Sorted.{sorted_far}
use Rattle.std.proofs.lemmas.Map.Keys.{apart_from_distinct}
use Rattle.guppy_graph.specs.Keys.{or_empty, keyed, HasKey, HasKeyBefore, IsIndex, Rise, DifferBelow, IsRepeat, IsFirstRepeat}
use Rattle.guppy_graph.proofs.KeyIndexes.{has_own, has_tie, tie_has, index_some, in_index}
use Rattle.guppy_graph.proofs.Lookups.{Before, before_order, le_by_number, not_less, equal_of_both}
use Rattle.guppy_graph.proofs.AscendingIndexes.{index_distinct}

apart : (a b : ℕ) → eq_by_cmp nat_cmp a b ≡ false → a ≡ b → ⊥
apart a b differs same =
    let tie : eq_by_cmp nat_cmp a a ≡ true = ap is_eq (tied_itself nat_cmp_total a) in
    let e : true ≡ false = sym tie ∙ subst (λ c. eq_by_cmp nat_cmp a c ≡ false) (sym same) differs in
    absurd (cc)

module _ (order : List ℕ → List ℕ → Ordering) (o : IsTotalOrder order) (key_at : ℕ → Option (List ℕ)) where
  abbrev key_fn : ℕ → List ℕ
  key_fn p = or_empty (key_at p)

  both_tie : (key a b : List ℕ) → order a key ≡ Equal → order b key ≡ Equal → order a b ≡ Equal
  both_tie key a b tie_a tie_b = o.congr a key b tie_a ∙ tied_back o b key tie_b

  -- of two positions with equal keys the one that isn't before is the later one
  in_turn : (a b : ℕ) → order (key_fn b) (key_fn a) ≡ Equal → Before o key_fn b a ≡ false → a ≤ b
  in_turn a b tie not_before = le_by_number a b (rw tie at not_before)

  module _ (n : ℕ) (index : List ℕ) (up : IsIndex order key_at n index) where
    -- where the one before it has its key, a position repeats that key
    pub neighbour_repeats : (place : ℕ) → 0 < place → place < length index → HasKeyBefore order key_at index place → IsRepeat (HasKey order key_at) (slice_index index place)
    neighbour_repeats zero after within tie = absurd (omega arith)
    neighbour_repeats (suc k) after within tied =
        let here = get_or index (suc k) 0 in
        let before = get_or index k 0 in
        let at : suc k - 1 ≡ k = omega arith in
        let next : k + 1 ≡ suc k = omega arith in
        let tie : order (key_fn before) (key_fn here) ≡ Equal = rw at at tied in
        let far : Before o key_fn here before ≡ false = rw next at (up.ascends k 0 (omega arith) (omega arith)) in
        let le : before ≤ here = in_turn before here (tied_back o (key_fn before) (key_fn here) tie) far in
        let differ = apart before here (apart_from_distinct (eq_by_cmp nat_cmp) index k (suc k) 0 (index_distinct order o key_at n index up) (omega arith) within) in
        record {
          key = key_fn here;
          here = has_own order o key_at here (index_some order o key_at n index up here (Contains-get_or index (suc k) 0 within));
          earlier = before;
          is_earlier = ⊎_elim (λ (lt : before < here). lt) (λ (ge : here ≤ before). absurd (differ (omega arith))) (cases_lt before here);
          there = tie_has order o key_at (key_fn here) before (index_some order o key_at n index up before (Contains-get_or index k 0 (omega arith))) tie;
        }

    -- the later of two places with equal keys has that key before it
    tie_before : (m k i j : ℕ) → m < k → k < length index → get_or index m 0 ≡ i → get_or index k 0 ≡ j → order (key_fn i) (key_fn j) ≡ Equal → HasKeyBefore order key_at index k
    tie_before m zero i j lower within at_i at_j tie = absurd (omega arith)
    tie_before m (suc k) i j lower within at_i at_j tie =
        let before = get_or index k 0 in
        let at : suc k - 1 ≡ k = omega arith in
        let front : Before o key_fn before i ≡ false = rw at_i at (sorted_far (Before o key_fn) (before_order o key_fn) index up.ascends m k 0 (omega arith) (omega arith)) in
        let back : Before o key_fn j before ≡ false = rw at_j at (sorted_far (Before o key_fn) (before_order o key_fn) index up.ascends k (suc k) 0 (omega arith) within) in
        let ahead : is_lt (order (key_fn before) (key_fn i)) ≡ false = not_less (order (key_fn before) (key_fn i)) (nat_cmp before i) front in
        let behind : is_lt (order (key_fn j) (key_fn before)) ≡ false = not_less (order (key_fn j) (key_fn before)) (nat_cmp j before) back in
        let turned : order (key_fn j) (key_fn before) ≡ ordering_reverse (order (key_fn before) (key_fn i)) =
        sym (o.congr (key_fn i) (key_fn j) (key_fn before) tie) ∙ o.antisymm (key_fn i) (key_fn before) in
        let same : order (key_fn before) (key_fn i) ≡ Equal = equal_of_both (order (key_fn before) (key_fn i)) ahead (rw turned at behind) in
        rw (at, at_j) (o.congr (key_fn before) (key_fn i) (key_fn j) same ∙ tie)

    module _ (lowest : ℕ) (low : lowest ≤ n) (least : (k : ℕ) → 0 < k → k < length index → HasKeyBefore order key_at index k → lowest ≤ slice_index index k) where
      no_pair : (i j : ℕ) (key : List ℕ) → i < j → j < lowest → HasKey order key_at key i → HasKey order key_at key j → ⊥
      no_pair i j key lower below has_i has_j =
          let there_i = in_index order o key_at n index up key i (omega arith) has_i in
          let there_j = in_index order o key_at n index up key j (omega arith) has_j in
          let m = there_i.0 in
          let k = there_j.0 in
          let at_i : get_or index m 0 ≡ i = get_or_default index m 0 i there_i.1 ∙ there_i.2 in
          let at_j : get_or index k 0 ≡ j = get_or_default index k 0 j there_j.1 ∙ there_j.2 in
          let tie = both_tie key (key_fn i) (key_fn j) (has_tie order o key_at key i has_i) (has_tie order o key_at key j has_j) in
          ⊎_elim
          (λ (lt : m < k).
          let there = least k (omega arith) there_j.1 (tie_before m k i j lt there_j.1 at_i at_j tie) in
          absurd (omega (arith, at_j)))
          (λ (ge : k ≤ m).
          let far : Before o key_fn i j ≡ false = rw (at_i, at_j) at (sorted_far (Before o key_fn) (before_order o key_fn) index up.ascends k m 0 ge there_i.1) in
          let le : j ≤ i = in_turn j i tie far in
          absurd (omega arith))
          (cases_lt m k)

      -- below the lowest position with a neighbour of its key, keys differ
      pub neighbours_differ : DifferBelow (HasKey order key_at) lowest
      neighbours_differ i j key below_i below_j has_i has_j = ⊎_elim
          (λ (lt : i < j). absurd (no_pair i j key lt below_j has_i has_j))
          (λ (ge : j ≤ i). ⊎_elim
          (λ (lt : j < i). absurd (no_pair j i key lt below_i has_j has_i))
          (λ (le : i ≤ j). omega arith)
          (cases_lt j i))
          (cases_lt i j)

-- positions that have keys, of which those of neighbours ascend strictly
module _ (order : List ℕ → List ℕ → Ordering) (o : IsTotalOrder order) (key_at : ℕ → Option (List ℕ)) (n : ℕ) (positions : List ℕ) (all : IsPermutation (keyed key_at n) positions) (rises : Rise order key_at positions) where
  not_before : (a b : ℕ) → order (or_empty (key_at a)) (or_empty (key_at b)) ≡ Less → Before o (λ p. or_empty (key_at p)) b a ≡ false
  not_before a b less =
      let back : order (or_empty (key_at b)) (or_empty (key_at a)) ≡ ordering_reverse Less = o.antisymm (or_empty (key_at b)) (or_empty (key_at a)) ∙ ap ordering_reverse less in
      rw back refl

  -- they are an index
  pub risen_index : IsIndex order key_at n positions
  risen_index = record {
    permutation = all;
    ascends = λ k d low high. not_before (get_or positions k d) (get_or positions (k + 1) d) (rises k d high);
  }

  none_before : (place : ℕ) → 0 < place → place < length positions → HasKeyBefore order key_at positions place → n ≤ slice_index positions place
  none_before zero after within tie = absurd (omega arith)
  none_before (suc k) after within tied =
      let at : suc k - 1 ≡ k = omega arith in
      let next : k + 1 ≡ suc k = omega arith in
      let tie : order (or_empty (key_at (get_or positions k 0))) (or_empty (key_at (get_or positions (suc k) 0))) ≡ Equal = rw at at tied in
      let less : order (or_empty (key_at (get_or positions k 0))) (or_empty (key_at (get_or positions (suc k) 0))) ≡ Less = rw next at (rises k 0 (omega arith)) in
      absurd (let e : Equal ≡ Less = sym tie ∙ less in cc)

  -- and no two have one key
  pub risen_differ : DifferBelow (HasKey order key_at) n
  risen_differ = neighbours_differ order o key_at n positions risen_index n (omega arith) none_before

-- the lowest position, of those at places before this one, that has the key of its neighbour, or n where none has
pub record IsScanned (order : List ℕ → List ℕ → Ordering) (key_at : ℕ → Option (List ℕ)) (n : ℕ) (index : List ℕ) (place lowest : ℕ) : Type 0 where
  pub low : lowest ≤ n
  pub repeats : lowest < n → IsRepeat (HasKey order key_at) lowest
  pub least : (k : ℕ) → 0 < k → k < place → HasKeyBefore order key_at index k → lowest ≤ slice_index index k

module _ (order : List ℕ → List ℕ → Ordering) (o : IsTotalOrder order) (key_at : ℕ → Option (List ℕ)) (n : ℕ) (index : List ℕ) where
  -- no place was looked at
  pub scanned_none : IsScanned order key_at n index 1 n
  scanned_none = record {
    low = omega arith;
    repeats = λ h. absurd (omega arith);
    least = λ k after before. absurd (omega arith);
  }

  module _ (place lowest : ℕ) (was : IsScanned order key_at n index place lowest) where
    -- one more place, with another key than the one before it
    pub scanned_other : (HasKeyBefore order key_at index place → ⊥) → IsScanned order key_at n index (place + 1) lowest
    scanned_other differs = record {
      low = was.low;
      repeats = was.repeats;
      least = λ k after before tie. ⊎_elim
          (λ (lt : k < place). was.least k after lt tie)
          (λ (ge : place ≤ k). absurd (differs (let same : k ≡ place = omega arith in subst (HasKeyBefore order key_at index) same tie)))
          (cases_lt k place);
    }

    module _ (up : IsIndex order key_at n index) where
      -- one more place, with the same key
      pub scanned_same : 0 < place → place < length index → HasKeyBefore order key_at index place → IsScanned order key_at n index (place + 1) (min lowest (slice_index index place))
      scanned_same after within tie =
          let here = slice_index index place in
          let low = was.low in
          record {
            low = omega arith;
            repeats = λ h. ⊎_elim
                (λ (lt : lowest < here). let e : min lowest here ≡ lowest = omega arith in let below : lowest < n = omega arith in rw e (was.repeats below))
                (λ (ge : here ≤ lowest). let e : min lowest here ≡ here = omega arith in rw e (neighbour_repeats order o key_at n index up place after within tie))
                (cases_lt lowest here);
            least = λ k late before tied. ⊎_elim
                (λ (lt : k < place). let le = was.least k late lt tied in omega arith)
                (λ (ge : place ≤ k). let same : k ≡ place = omega arith in rw same (omega arith))
                (cases_lt k place);
          }

      -- all places
      pub scanned_all : length index ≤ place → (r : Option ℕ) → r ≡ then_some (ltb lowest n) lowest → MatchOption r (DifferBelow (HasKey order key_at) n) (IsFirstRepeat (HasKey order key_at))
      scanned_all all r r_is =
          let least = λ (k : ℕ) (late : 0 < k) (within : k < length index) (tie : HasKeyBefore order key_at index k). was.least k late (omega arith) tie in
          let differ = neighbours_differ order o key_at n index up lowest was.low least in
          ⊎_elim
          (λ (lt : lowest < n). rw (r_is, lt-ltb lowest n lt) (record { repeat = was.repeats lt; differ = differ }))
          (λ (ge : n ≤ lowest). let low = was.low in let same : lowest ≡ n = omega arith in
          rw (r_is, le-ltb lowest n ge) (subst (DifferBelow (HasKey order key_at)) same differ))
          (cases_lt lowest n)
