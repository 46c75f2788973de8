-- Packages of one name are neighbours in the order of the names.
use Rattle.std.proofs.Common.{◌≡◌, ◌≢◌, ◌⊎◌, ◌∙◌, refl, sym, ap, subst, inl, inr, ⊎_elim, ℕ, zero, suc, ◌+◌, ◌<◌, ◌≤◌, Bool, true, false, List, [], ◌∷◌, length, map, get_or, All, arith, Option, Some, None}
use Rattle.std.specs.Prelude.{◌↔◌, ◌-◌, IsTrue, slice_get, IsSomeAnd}
use Rattle.std.specs.Borrow.{Bor}
use Rattle.std.specs.List.{Contains, IsDistinct, range_with_len}
use Rattle.std.specs.List.Sorted.{IsPermutation, IsStrictlyIncreasing}
use Rattle.std.specs.Option.{option_cmp, option_map}
use Rattle.std.specs.Ordering.{nat_cmp, is_lt, is_eq, eq_by_cmp, ordering_reverse}
use Rattle.std.specs.String.{string_bytes}
use Rattle.std.specs.declared.cmp.Ordering.{Ordering}
use Rattle.std.specs.declared.cmp.Ordering.TheVariants.{Less, Equal, Greater}
use Rattle.std.proofs.lemmas.Bool.{cases_lt}
use Rattle.std.proofs.lemmas.Cmp.{nat_cmp_total, tied_itself}
use Rattle.std.proofs.lemmas.List.FromFn.{length-range_with_len, get_or-range_with_len}
use Rattle.std.proofs.lemmas.List.Elements.{All-contains}
use Rattle.std.proofs.lemmas.List.Sorted.{sorted_far, ranks_by, IsPermutation-map, IsPermutation-sym, Contains-permutation, All-permutation}
use Rattle.std.proofs.lemmas.Map.Keys.{IsDistinct-from_sorted, IsDistinct-IsPermutation, apart_from_distinct, sorted_from_strictly_increasing}
use Rattle.std.proofs.lemmas.Option.{slice_get_within, slice_get-map, get_or_from_slice_get}
use Rattle.guppy_core.specs.Listing.{Stands, IsOnce}
use Rattle.guppy_core.proofs.Listings.{stands_contains, contains_stands}
use Rattle.guppy_graph.proofs.KeyIndexes.{below_range}
use Rattle.guppy_graph.proofs.Lists.{All-slice_get, some_at, some_of, of_some}
use Rattle.guppy_data.specs.declared.records.PackageRecord.{PackageRecord}
use Rattle.guppy_graph.specs.Graph.{GraphData}
use Rattle.guppy.specs.Iterators.{packages_of}
use Rattle.guppy.specs.PackageNames.{HasPackageName}
use Rattle.guppy.specs.Views.{graph_of, graph_packages, package_position, package_seen}
use Rattle.guppy.specs.declared.metadata.PackageMetadata.{PackageMetadata}
use Rattle.guppy_extras.specs.Duplicates.{by_name, HasNamesake}
use Rattle.guppy_extras.specs.Sorted.{record_of, HaveOneName, AreSorted}
use Rattle.guppy_extras.proofs.NameOrder.{records_total, name_between}

-- ---- positions that stand once

same_flips : (x y : ℕ) → eq_by_cmp nat_cmp x y ≡ eq_by_cmp nat_cmp y x
same_flips x y = ap is_eq (nat_cmp_total.antisymm x y) ∙ is_eq-reverse (nat_cmp y x)
  where
    is_eq-reverse : (v : Ordering) → is_eq (ordering_reverse v) ≡ is_eq v
    is_eq-reverse Less = refl
    is_eq-reverse Equal = refl
    is_eq-reverse Greater = refl

range_rises : (n : ℕ) → IsStrictlyIncreasing (range_with_len 0 n)
range_rises n k within =
    let long : k + 1 < n = rw (length-range_with_len 0 n) at within in
    let here = get_or-range_with_len 0 n k 0 (omega arith) in
    let next = get_or-range_with_len 0 n (k + 1) 0 long in
    omega arith

in_range : (n p : ℕ) → p < n → Contains (range_with_len 0 n) p
in_range n p below = (p, rw (length-range_with_len 0 n) below, let at = get_or-range_with_len 0 n p p below in omega arith)

module _ (n : ℕ) (list : List ℕ) (all : IsPermutation (range_with_len 0 n) list) where
  distinct : IsDistinct (eq_by_cmp nat_cmp) list
  distinct = IsDistinct-IsPermutation (eq_by_cmp nat_cmp) same_flips (range_with_len 0 n) list all
      (IsDistinct-from_sorted nat_cmp (range_with_len 0 n) (sorted_from_strictly_increasing (range_with_len 0 n) (range_rises n)))

  never_twice : (i j x : ℕ) → i < j → slice_get list i ≡ Some x → slice_get list j ≡ Some x → ⊥
  never_twice i j x less at_i at_j =
      let apart = apart_from_distinct (eq_by_cmp nat_cmp) list i j x distinct less (slice_get_within list j x at_j) in
      let here = get_or_from_slice_get list i x x at_i in
      let there = get_or_from_slice_get list j x x at_j in
      let differ : eq_by_cmp nat_cmp x x ≡ false = rw (here, there) at apart in
      let e : true ≡ false = sym (ap is_eq (tied_itself nat_cmp_total x)) ∙ differ in
      absurd (cc)

  pub range_once : IsOnce list
  range_once i j x at_i at_j = ⊎_elim
      (λ (less : i < j). absurd (never_twice i j x less at_i at_j))
      (λ (most : j ≤ i). ⊎_elim
      (λ (less : j < i). absurd (never_twice j i x less at_j at_i))
      (λ (least : i ≤ j). omega arith)
      (cases_lt j i))
      (cases_lt i j)

  pub range_stands : (p : ℕ) → p < n → Stands list p
  range_stands p below = contains_stands list p (Contains-permutation (range_with_len 0 n) list p all (in_range n p below))

  pub range_below : (p : ℕ) → Stands list p → p < n
  range_below p stands = All-contains (λ q. q < n) (range_with_len 0 n) p (below_range n)
      (Contains-permutation list (range_with_len 0 n) p (IsPermutation-sym (range_with_len 0 n) list all) (stands_contains list p stands))

-- ---- packages in the order of their names

of_one_name : (a b : Option PackageRecord) (name : List ℕ) → IsSomeAnd a (λ r. string_bytes r.name ≡ name) → IsSomeAnd b (λ r. string_bytes r.name ≡ name) → HaveOneName a b
of_one_name None b name h k = absurd h
of_one_name (Some r) None name h k = absurd k
of_one_name (Some r) (Some s) name h k = h ∙ sym k

their_name : (a b : Option PackageRecord) → HaveOneName a b → (name : List ℕ) × IsSomeAnd a (λ r. string_bytes r.name ≡ name) × IsSomeAnd b (λ r. string_bytes r.name ≡ name)
their_name None b one = absurd one
their_name (Some r) None one = absurd one
their_name (Some r) (Some s) one = (string_bytes s.name, one, refl)

seconds : (g : Bor GraphData) (ps : List ℕ) → map (λ (x : Bor GraphData × ℕ). x.1) (map (λ p. (g, p)) ps) ≡ ps
seconds g [] = refl
seconds g (p ∷ ps) = ap (λ l. p ∷ l) (seconds g ps)

positions_seen : (ms : List PackageMetadata) → map (λ (x : Bor GraphData × ℕ). x.1) (map package_seen ms) ≡ map package_position ms
positions_seen [] = refl
positions_seen (m ∷ ms) = ap (λ l. package_position m ∷ l) (positions_seen ms)

all_beside : (g : Bor GraphData) (ps : List ℕ) → All (λ (x : Bor GraphData × ℕ). x.0 ≡ g) (map (λ p. (g, p)) ps)
all_beside g [] k d within = absurd (omega arith)
all_beside g (p ∷ ps) zero d within = refl
all_beside g (p ∷ ps) (suc k) d within = all_beside g ps k d (omega arith)

module _ (g : Bor GraphData) (ms : List PackageMetadata) (sorted : AreSorted g ms) where
  abbrev packages : List PackageRecord
  packages = g.now.packages

  abbrev positions : List ℕ
  positions = map package_position ms

  pub positions_all : IsPermutation (range_with_len 0 (length packages)) positions
  positions_all = rw (← seconds g (range_with_len 0 (length packages)), ← positions_seen ms)
      (IsPermutation-map (λ (x : Bor GraphData × ℕ). x.1) (packages_of g) (map package_seen ms) sorted.all)

  pub graph_is : (k : ℕ) (m : PackageMetadata) → slice_get ms k ≡ Some m → graph_of m ≡ g
  graph_is k m at =
      All-slice_get (λ (x : Bor GraphData × ℕ). x.0 ≡ g) (map package_seen ms) k (package_seen m)
      (All-permutation (λ (x : Bor GraphData × ℕ). x.0 ≡ g) (packages_of g) (map package_seen ms) sorted.all (all_beside g (range_with_len 0 (length packages))))
      (slice_get-map package_seen ms k ∙ ap (option_map package_seen) at)

  pub record_is : (k : ℕ) (m : PackageMetadata) → slice_get ms k ≡ Some m → record_of m ≡ slice_get packages (package_position m)
  record_is k m at = ap (λ (h : Bor GraphData). slice_get h.now.packages (package_position m)) (graph_is k m at)

  pub position_at : (k : ℕ) (m : PackageMetadata) → slice_get ms k ≡ Some m → slice_get positions k ≡ Some (package_position m)
  position_at k m at = slice_get-map package_position ms k ∙ ap (option_map package_position) at

  -- the package at a place that has a position
  package_at : (k p : ℕ) → slice_get positions k ≡ Some p → (m : PackageMetadata) × (slice_get ms k ≡ Some m) × (package_position m ≡ p)
  package_at k p at = by (slice_get ms k) refl
    where
      by : (o : Option PackageMetadata) → slice_get ms k ≡ o → (m : PackageMetadata) × (slice_get ms k ≡ Some m) × (package_position m ≡ p)
      by None is = absurd (let e = slice_get-map package_position ms k in let f : option_map package_position (slice_get ms k) ≡ None = ap (option_map package_position) is in cc (e, f, at))
      by (Some m) is = (m, is, (let e = position_at k m is in cc (e, at)))

  -- no later one comes before an earlier one
  pub in_order : (i j p q : ℕ) → i ≤ j → slice_get positions i ≡ Some p → slice_get positions j ≡ Some q → is_lt (option_cmp by_name (slice_get packages q) (slice_get packages p)) ≡ false
  in_order i j p q le at_p at_q =
      let m = package_at i p at_p in
      let n = package_at j q at_q in
      let far = sorted_far (λ a b. is_lt (option_cmp by_name (record_of a) (record_of b))) (ranks_by records_total record_of) ms sorted.ascends i j m.0 le (slice_get_within ms j n.0 n.1) in
      let first : get_or ms i m.0 ≡ m.0 = get_or_from_slice_get ms i m.0 m.0 m.1 in
      let second : get_or ms j m.0 ≡ n.0 = get_or_from_slice_get ms j n.0 m.0 n.1 in
      let there : is_lt (option_cmp by_name (record_of n.0) (record_of m.0)) ≡ false = rw (first, second) at far in
      rw (record_is i m.0 m.1, record_is j n.0 n.1, m.2, n.2) at there

  named_between : (p q r : ℕ) (name : List ℕ) → HasPackageName packages name p → HasPackageName packages name q → r < length packages
      → is_lt (option_cmp by_name (slice_get packages r) (slice_get packages p)) ≡ false
      → is_lt (option_cmp by_name (slice_get packages q) (slice_get packages r)) ≡ false
      → HasPackageName packages name r
  named_between p q r name has_p has_q within from_p to_q =
      let a = some_of (slice_get packages p) (λ (x : PackageRecord). string_bytes x.name ≡ name) has_p in
      let b = some_of (slice_get packages q) (λ (x : PackageRecord). string_bytes x.name ≡ name) has_q in
      let c = some_at packages r within in
      let low = rw (a.1, c.1) at from_p in
      let high = rw (b.1, c.1) at to_q in
      of_some (slice_get packages r) (λ (x : PackageRecord). string_bytes x.name ≡ name) c.0 c.1 (name_between a.0 c.0 b.0 (a.2 ∙ sym b.2) low high ∙ b.2)

  module _ (k : ℕ) (m n : PackageMetadata) (at_m : slice_get ms k ≡ Some m) (at_n : slice_get ms (k + 1) ≡ Some n) where
    differ : package_position m ≢ package_position n
    differ same =
        let there : slice_get positions (k + 1) ≡ Some (package_position m) = position_at (k + 1) n at_n ∙ ap Some (sym same) in
        let e = range_once (length packages) positions positions_all k (k + 1) (package_position m) (position_at k m at_m) there in
        absurd (omega arith)

    abbrev neighbours : Type 0
    neighbours = (name : List ℕ) × HasPackageName packages name (package_position m) × HasPackageName packages name (package_position n)

    as_neighbours : HaveOneName (record_of m) (record_of n) → neighbours
    as_neighbours one = their_name (slice_get packages (package_position m)) (slice_get packages (package_position n)) (rw (record_is k m at_m, record_is (k + 1) n at_n) at one)

    -- neighbours of one name are namesakes
    pub namesake_behind : HaveOneName (record_of m) (record_of n) → HasNamesake packages (package_position m)
    namesake_behind one = let (name, has_m, has_n) = as_neighbours one in (name, package_position n, differ, has_m, has_n)

    pub namesake_before : HaveOneName (record_of m) (record_of n) → HasNamesake packages (package_position n)
    namesake_before one = let (name, has_m, has_n) = as_neighbours one in (name, package_position m, (λ same. differ (sym same)), has_n, has_m)

  -- the package at the place has the name of the one before it
  abbrev pub IsBehindNamesake : ℕ → PackageMetadata → Type 0
  IsBehindNamesake k m = (i : ℕ) × (n : PackageMetadata) × (i + 1 ≡ k) × (slice_get ms i ≡ Some n) × HaveOneName (record_of n) (record_of m)

  -- or of the one behind it
  abbrev pub IsBeforeNamesake : ℕ → PackageMetadata → Type 0
  IsBeforeNamesake k m = (n : PackageMetadata) × (slice_get ms (k + 1) ≡ Some n) × HaveOneName (record_of m) (record_of n)

  module _ (k : ℕ) (m : PackageMetadata) (at : slice_get ms k ≡ Some m) where
    behind : (name : List ℕ) (q j : ℕ) → HasPackageName packages name (package_position m) → HasPackageName packages name q → slice_get positions j ≡ Some q → j < k → IsBehindNamesake k m
    behind name q j has_m has_q at_q less =
        let i : ℕ = k - 1 in
        let next : k - 1 + 1 ≡ k = omega arith in
        let within = slice_get_within ms k m at in
        let n = some_at ms (k - 1) (omega arith) in
        let at_n = position_at (k - 1) n.0 n.1 in
        let at_m = position_at k m at in
        let from_q = in_order j (k - 1) q (package_position n.0) (omega arith) at_q at_n in
        let to_m = in_order (k - 1) k (package_position n.0) (package_position m) (omega arith) at_n at_m in
        let has_n = named_between q (package_position m) (package_position n.0) name has_q has_m (range_below (length packages) positions positions_all (package_position n.0) (k - 1, at_n)) from_q to_m in
        (k - 1, n.0, next, n.1, rw (record_is (k - 1) n.0 n.1, record_is k m at) (of_one_name (slice_get packages (package_position n.0)) (slice_get packages (package_position m)) name has_n has_m))

    before : (name : List ℕ) (q j : ℕ) → HasPackageName packages name (package_position m) → HasPackageName packages name q → slice_get positions j ≡ Some q → k < j → IsBeforeNamesake k m
    before name q j has_m has_q at_q less =
        let last = package_at j q at_q in
        let within = slice_get_within ms j last.0 last.1 in
        let n = some_at ms (k + 1) (omega arith) in
        let at_n = position_at (k + 1) n.0 n.1 in
        let at_m = position_at k m at in
        let from_m = in_order k (k + 1) (package_position m) (package_position n.0) (omega arith) at_m at_n in
        let to_q = in_order (k + 1) j (package_position n.0) q (omega arith) at_n at_q in
        let has_n = named_between (package_position m) q (package_position n.0) name has_m has_q (range_below (length packages) positions positions_all (package_position n.0) (k + 1, at_n)) from_m to_q in
        (n.0, n.1, rw (record_is k m at, record_is (k + 1) n.0 n.1) (of_one_name (slice_get packages (package_position m)) (slice_get packages (package_position n.0)) name has_m has_n))

    -- a namesake stands beside it
    pub beside : HasNamesake packages (package_position m) → IsBehindNamesake k m ⊎ IsBeforeNamesake k m
    beside (name, q, apart, has_m, has_q) =
        let there = some_of (slice_get packages q) (λ (r : PackageRecord). string_bytes r.name ≡ name) has_q in
        let stands = range_stands (length packages) positions positions_all q (slice_get_within packages q there.0 there.1) in
        ⊎_elim
        (λ (less : stands.0 < k). inl (behind name q stands.0 has_m has_q stands.1 less))
        (λ (least : k ≤ stands.0). ⊎_elim
        (λ (more : k < stands.0). inr (before name q stands.0 has_m has_q stands.1 more))
        (λ (most : stands.0 ≤ k). absurd (
        let same : stands.0 ≡ k = omega arith in
        let here : slice_get positions k ≡ Some q = subst (λ z. slice_get positions z ≡ Some q) same stands.1 in
        apart (let e = position_at k m at in cc (e, here))))
        (cases_lt k stands.0))
        (cases_lt stands.0 k)

    behind_is : IsBehindNamesake k m → HasNamesake packages (package_position m)
    behind_is (i, n, next, at_n, one) = namesake_before i n m at_n (subst (λ z. slice_get ms z ≡ Some m) (sym next) at) one

    before_is : IsBeforeNamesake k m → HasNamesake packages (package_position m)
    before_is (n, at_n, one) = namesake_behind k m n at at_n one

    -- what looking at both sides tells
    pub beside_tells : (found : Bool) → (found ≡ true → IsBehindNamesake k m ⊎ IsBeforeNamesake k m) → (found ≡ false → (IsBehindNamesake k m → ⊥) × (IsBeforeNamesake k m → ⊥)) → IsSomeAnd (slice_get ms k) (λ n. IsTrue found ↔ HasNamesake (graph_packages n) (package_position n))
    beside_tells found there none =
        of_some (slice_get ms k) (λ n. IsTrue found ↔ HasNamesake (graph_packages n) (package_position n)) m at
        (subst (λ (h : Bor GraphData). IsTrue found ↔ HasNamesake h.now.packages (package_position m)) (sym (graph_is k m at)) (
          λ yes. ⊎_elim behind_is before_is (there yes),
          λ is_named. by found refl is_named,
        ))
      where
        by : (b : Bool) → found ≡ b → HasNamesake packages (package_position m) → found ≡ true
        by true is is_named = is
        by false is is_named = absurd (let neither = none is in ⊎_elim neither.0 neither.1 (beside is_named))

    -- the first has none before it
    pub first_alone : k ≤ 0 → IsBehindNamesake k m → ⊥
    first_alone first (i, n, next, at_n, one) = absurd (omega arith)

    pub behind_other : (n : PackageMetadata) → slice_get ms (k - 1) ≡ Some n → (HaveOneName (record_of n) (record_of m) → ⊥) → IsBehindNamesake k m → ⊥
    behind_other n at_n other (i, o, next, at_o, one) =
        let same : i ≡ k - 1 = omega arith in
        let here : slice_get ms (k - 1) ≡ Some o = subst (λ z. slice_get ms z ≡ Some o) same at_o in
        let is : o ≡ n = cc (here, at_n) in
        other (subst (λ (p : PackageMetadata). HaveOneName (record_of p) (record_of m)) is one)

    -- the last has none behind it
    pub last_alone : length ms ≤ k + 1 → IsBeforeNamesake k m → ⊥
    last_alone last (n, at_n, one) = let within = slice_get_within ms (k + 1) n at_n in absurd (omega arith)

    pub before_other : (n : PackageMetadata) → slice_get ms (k + 1) ≡ Some n → (HaveOneName (record_of m) (record_of n) → ⊥) → IsBeforeNamesake k m → ⊥
    before_other n at_n other (o, at_o, one) =
        let is : o ≡ n = cc (at_o, at_n) in
        other (subst (λ (p : PackageMetadata). HaveOneName (record_of m) (record_of p)) is one)
