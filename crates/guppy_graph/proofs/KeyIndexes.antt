-- Positions that have keys, and their indexes.
use Rattle.std.proofs.Common.{◌≡◌, ◌≢◌, subst, refl, ℕ, ◌<◌, ◌≤◌, List, [], ◌∷◌, length, get_or, arith, Bool, true, false, not, All, Option, Some, None, ⊎_elim}
use Rattle.std.specs.Prelude.{IsSomeAnd, filter, is_some}
use Rattle.std.specs.List.{Contains, range_with_len}
use Rattle.std.specs.List.Sorted.{IsPartitionPoint, IsPermutation}
use Rattle.std.specs.Cmp.{IsTotalOrder}
use Rattle.std.specs.declared.cmp.Ordering.{Ordering}
use Rattle.std.specs.declared.cmp.Ordering.TheVariants.{Less, Equal, Greater}
use Rattle.std.specs.Ordering.{is_lt, is_eq, nat_cmp}
use Rattle.std.specs.Cmp.Lexicographic.{slice_cmp}
use Rattle.std.proofs.lemmas.Cmp.{nat_list_cmp_total, tied_itself}
use Rattle.std.proofs.lemmas.Map.Lookups.{exact_bytes}
use Rattle.std.proofs.lemmas.List.Elements.{All-head, All-tail, All-contains, All-filter, filter_passes, Contains-append_cases}
use Rattle.std.proofs.lemmas.List.FromFn.{length-range_with_len, get_or-range_with_len}
use Rattle.std.proofs.lemmas.List.Sorted.{Contains-permutation, IsPermutation-sym, IsPermutation-filter_both}
use Rattle.guppy_graph.specs.Keys.{or_empty, keyed, HasKey, IsIndex, NoneBelow, IsFirstWith, DifferBelow, IsFirstRepeat}
use Rattle.guppy_graph.proofs.Lookups.{first_tied, untied, none_left}

pub from_is_eq : (v : Ordering) → is_eq v ≡ true → v ≡ Equal
from_is_eq Less h = absurd (cc)
from_is_eq Equal h = refl
from_is_eq Greater h = absurd (cc)

not_both : (b : Bool) → b ≡ true → not b ≡ true → ⊥
not_both true h k = absurd (cc)
not_both false h k = absurd (cc)

contains_filter : {A : Type 0} (test : A → Bool) (xs : List A) (x : A) → Contains xs x → test x ≡ true → Contains (filter test xs) x
contains_filter {A} test xs x there passes =
    let rest = λ (y : A). not (test y) in
    ⊎_elim (λ left. left)
    (λ right. absurd (not_both (test x) passes (All-contains (λ y. rest y ≡ true) (filter rest xs) x (filter_passes rest xs) right)))
    (Contains-append_cases (filter test xs) (filter rest xs) x (Contains-permutation xs _ x (IsPermutation-filter_both test rest (λ y. refl) xs) there))

pub below_range : (n : ℕ) → All (λ p. p < n) (range_with_len 0 n)
below_range n k d within =
    let long : k < n = rw (length-range_with_len 0 n) at within in
    let is = get_or-range_with_len 0 n k d long in
    omega arith

in_range : (n p : ℕ) → p < n → Contains (range_with_len 0 n) p
in_range n p below = (p, rw (length-range_with_len 0 n) below, let at = get_or-range_with_len 0 n p p below in omega arith)

module _ (key_at : ℕ → Option (List ℕ)) (n : ℕ) where
  pub keyed_below : (p : ℕ) → Contains (keyed key_at n) p → p < n
  keyed_below p there = All-contains (λ q. q < n) (keyed key_at n) p (All-filter (λ q. is_some (key_at q)) (λ q. q < n) (range_with_len 0 n) (below_range n)) there

  pub keyed_some : (p : ℕ) → Contains (keyed key_at n) p → is_some (key_at p) ≡ true
  keyed_some p there = All-contains (λ q. is_some (key_at q) ≡ true) (keyed key_at n) p (filter_passes (λ q. is_some (key_at q)) (range_with_len 0 n)) there

  pub in_keyed : (p : ℕ) → p < n → is_some (key_at p) ≡ true → Contains (keyed key_at n) p
  in_keyed p below some = contains_filter (λ q. is_some (key_at q)) (range_with_len 0 n) p (in_range n p below) some

module _ (P : List ℕ → Type 0) where
  some_of_key : (own : Option (List ℕ)) → IsSomeAnd own P → is_some own ≡ true
  some_of_key None h = absurd h
  some_of_key (Some key) h = refl

  of_key : (own : Option (List ℕ)) → IsSomeAnd own P → P (or_empty own)
  of_key None h = absurd h
  of_key (Some key) h = h

  key_of : (own : Option (List ℕ)) → is_some own ≡ true → P (or_empty own) → IsSomeAnd own P
  key_of None some h = absurd (cc)
  key_of (Some key) some h = h

module _ (order : List ℕ → List ℕ → Ordering) (o : IsTotalOrder order) (key_at : ℕ → Option (List ℕ)) where
  abbrev key_fn : ℕ → List ℕ
  key_fn p = or_empty (key_at p)

  pub has_some : (key : List ℕ) (p : ℕ) → HasKey order key_at key p → is_some (key_at p) ≡ true
  has_some key p h = some_of_key (λ own. order own key ≡ Equal) (key_at p) h

  pub has_tie : (key : List ℕ) (p : ℕ) → HasKey order key_at key p → order (or_empty (key_at p)) key ≡ Equal
  has_tie key p h = of_key (λ own. order own key ≡ Equal) (key_at p) h

  pub tie_has : (key : List ℕ) (p : ℕ) → is_some (key_at p) ≡ true → order (or_empty (key_at p)) key ≡ Equal → HasKey order key_at key p
  tie_has key p some tie = key_of (λ own. order own key ≡ Equal) (key_at p) some tie

  pub has_own : (p : ℕ) → is_some (key_at p) ≡ true → HasKey order key_at (or_empty (key_at p)) p
  has_own p some = tie_has (or_empty (key_at p)) p some (tied_itself o (or_empty (key_at p)))

  module _ (n : ℕ) (index : List ℕ) (up : IsIndex order key_at n index) where
    pub index_below : (p : ℕ) → Contains index p → p < n
    index_below p there = keyed_below key_at n p (Contains-permutation index (keyed key_at n) p (IsPermutation-sym (keyed key_at n) index up.permutation) there)

    pub index_some : (p : ℕ) → Contains index p → is_some (key_at p) ≡ true
    index_some p there = keyed_some key_at n p (Contains-permutation index (keyed key_at n) p (IsPermutation-sym (keyed key_at n) index up.permutation) there)

    pub in_index : (key : List ℕ) (p : ℕ) → p < n → HasKey order key_at key p → Contains index p
    in_index key p below h = Contains-permutation (keyed key_at n) index p up.permutation (in_keyed key_at n p below (has_some key p h))

    module _ (key : List ℕ) (place : ℕ) (parts : IsPartitionPoint (λ p. is_lt (order (or_empty (key_at p)) key) ≡ true) (λ p. is_lt (order (or_empty (key_at p)) key) ≡ false) index place) where
      pub first_of : (first : ℕ) → place < length index → first ≡ get_or index place 0 → Contains index first → order (or_empty (key_at first)) key ≡ Equal → IsFirstWith (HasKey order key_at) key first
      first_of first inside is there tie = (
        tie_has key first (index_some first there) tie,
        λ p lower h.
            let below : p < n = let l = index_below first there in omega arith in
            let least = first_tied o key_fn key index place parts up.ascends first inside is tie p (in_index key p below h) (has_tie key p h) in
            absurd (omega arith),
      )

      pub none_with : (first : ℕ) → place < length index → first ≡ get_or index place 0 → (order (or_empty (key_at first)) key ≢ Equal) → NoneBelow (HasKey order key_at) key n
      none_with first inside is differs p below h =
          untied o key_fn key index place parts up.ascends first inside is differs p (in_index key p below h) (has_tie key p h)

      pub none_past : length index ≤ place → NoneBelow (HasKey order key_at) key n
      none_past past p below h = none_left o key_fn key index place parts past p (in_index key p below h) (has_tie key p h)

filter_all : {A : Type 0} (test : A → Bool) (xs : List A) → All (λ x. test x ≡ true) xs → filter test xs ≡ xs
filter_all test [] h = refl
filter_all test (x ∷ xs) h =
    let rest : filter test xs ≡ xs = filter_all test xs (All-tail (λ y. test y ≡ true) x xs h) in
    rw (All-head (λ y. test y ≡ true) x xs h, rest) refl

-- where each position has a key, an index has all positions
pub index_of_all : (order : List ℕ → List ℕ → Ordering) (key_at : ℕ → Option (List ℕ)) (n : ℕ) → ((p : ℕ) → p < n → is_some (key_at p) ≡ true) → (index : List ℕ) → IsIndex order key_at n index → IsPermutation (range_with_len 0 n) index
index_of_all order key_at n each index up =
    subst (λ l. IsPermutation l index)
    (filter_all (λ p. is_some (key_at p)) (range_with_len 0 n) (λ k d within. each (get_or (range_with_len 0 n) k d) (below_range n k d within)))
    up.permutation

-- what has a key in one sense has it in another
module _ (Has Owns : List ℕ → ℕ → Type 0) (there : (key : List ℕ) (p : ℕ) → Has key p → Owns key p) (back : (key : List ℕ) (p : ℕ) → Owns key p → Has key p) where
  pub NoneBelow-along : (key : List ℕ) (n : ℕ) → NoneBelow Has key n → NoneBelow Owns key n
  NoneBelow-along key n none p below h = none p below (back key p h)

  pub IsFirstWith-along : (key : List ℕ) (p : ℕ) → IsFirstWith Has key p → IsFirstWith Owns key p
  IsFirstWith-along key p h = (there key p h.0, NoneBelow-along key p h.1)

  pub DifferBelow-along : (n : ℕ) → DifferBelow Has n → DifferBelow Owns n
  DifferBelow-along n differ i j key below_i below_j h k = differ i j key below_i below_j (back key i h) (back key j k)

  pub IsFirstRepeat-along : (p : ℕ) → IsFirstRepeat Has p → IsFirstRepeat Owns p
  IsFirstRepeat-along p r = record {
    repeat = record {
      key = r.repeat.key;
      here = there r.repeat.key p r.repeat.here;
      earlier = r.repeat.earlier;
      is_earlier = r.repeat.is_earlier;
      there = there r.repeat.key r.repeat.earlier r.repeat.there;
    };
    differ = DifferBelow-along p r.differ;
  }

exact_key : (own : Option (List ℕ)) (key : List ℕ) → IsSomeAnd own (λ k. slice_cmp nat_cmp k key ≡ Equal) → IsSomeAnd own (λ k. k ≡ key)
exact_key None key h = absurd h
exact_key (Some own) key h = exact_bytes own key h

tied_key : (own : Option (List ℕ)) (key : List ℕ) → IsSomeAnd own (λ k. k ≡ key) → IsSomeAnd own (λ k. slice_cmp nat_cmp k key ≡ Equal)
tied_key None key h = absurd h
tied_key (Some own) key h = subst (λ k. slice_cmp nat_cmp own k ≡ Equal) h (tied_itself nat_list_cmp_total own)

-- keys that are compared byte by byte are the same where they are equal
module _ (key_at : ℕ → Option (List ℕ)) where
  pub exact_there : (key : List ℕ) (p : ℕ) → HasKey (slice_cmp nat_cmp) key_at key p → IsSomeAnd (key_at p) (λ own. own ≡ key)
  exact_there key p h = exact_key (key_at p) key h

  pub exact_back : (key : List ℕ) (p : ℕ) → IsSomeAnd (key_at p) (λ own. own ≡ key) → HasKey (slice_cmp nat_cmp) key_at key p
  exact_back key p h = tied_key (key_at p) key h
