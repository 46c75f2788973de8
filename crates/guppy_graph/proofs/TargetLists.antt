-- The build targets of a package in the order of their IDs.
use Rattle.std.proofs.Common.{◌≡◌, sym, subst, ap, refl, ℕ, suc, ◌<◌, List, [], ◌∷◌, get_or, length, map, arith, All, slice_get}
use Rattle.std.specs.List.{AllByRecursion, filter_map, range_with_len}
use Rattle.std.specs.List.Sorted.{IsPermutation, IsStrictlySortedBy}
use Rattle.std.specs.declared.cmp.Ordering.{Ordering}
use Rattle.std.specs.declared.cmp.Ordering.TheVariants.{Less}
use Rattle.std.specs.Ordering.{nat_cmp, on}
use Rattle.std.specs.Cmp.Lexicographic.{slice_cmp}
use Rattle.std.proofs.lemmas.Cmp.{nat_list_cmp_total}
use Rattle.std.proofs.lemmas.List.{ext_get_or}
use Rattle.std.proofs.lemmas.List.Elements.{All-head, All-tail}
use Rattle.std.proofs.lemmas.List.FromFn.{length-map-range_with_len, get_or-map-range_with_len}
use Rattle.std.proofs.lemmas.List.Sorted.{All-permutation, IsPermutation-map, IsPermutation-refl}
use Rattle.std.proofs.lemmas.Option.{slice_get-get_or}
use Rattle.guppy_data.specs.declared.records.BuildTargetRecord.{BuildTargetRecord}
use Rattle.guppy_data.specs.BuildTargetId.{recorded_id, target_id_cmp}
use Rattle.guppy_data.proofs.AscendingLists.{IsStrictlySortedBy-map}
use Rattle.guppy_graph.specs.Keys.{or_empty, DifferBelow}
use Rattle.guppy_graph.specs.Targets.{target_key, target_at, HasTarget, AreTargetsById}
use Rattle.guppy_graph.specs.Indexes.{IsTargetIndex}
use Rattle.guppy_graph.proofs.Lists.{some_at}
use Rattle.guppy_graph.proofs.KeyIndexes.{below_range, index_of_all}
use Rattle.guppy_graph.proofs.TargetIds.{keys_differ}
use Rattle.guppy_graph.proofs.AscendingIndexes.{index_ascends}

AllByRecursion-from_map : {A K : Type 0} (P : K → Type 0) (read : A → K) (xs : List A) → AllByRecursion P (map read xs) → AllByRecursion (λ x. P (read x)) xs
AllByRecursion-from_map P read [] h = h
AllByRecursion-from_map P read (x ∷ xs) h = (h.0, AllByRecursion-from_map P read xs h.1)

IsStrictlySortedBy-from_map : {A K : Type 0} (order : K → K → Ordering) (read : A → K) (xs : List A) → IsStrictlySortedBy order (map read xs) → IsStrictlySortedBy (on read order) xs
unfolding IsStrictlySortedBy
IsStrictlySortedBy-from_map order read [] h = h
IsStrictlySortedBy-from_map order read (x ∷ xs) h =
    (AllByRecursion-from_map (λ key. order (read x) key ≡ Less) read xs h.0, IsStrictlySortedBy-from_map order read xs h.1)

module _ (targets : List BuildTargetRecord) where
  abbrev places_all : List ℕ
  places_all = range_with_len 0 (length targets)

  module _ (d : BuildTargetRecord) where
    reads : (places : List ℕ) → All (λ p. p < length targets) places → filter_map (slice_get targets) places ≡ map (λ p. get_or targets p d) places
    reads [] below = refl
    reads (p ∷ ps) below =
        let rest : filter_map (slice_get targets) ps ≡ map (λ q. get_or targets q d) ps = reads ps (All-tail (λ q. q < length targets) p ps below) in
        rw (slice_get-get_or targets p d (All-head (λ q. q < length targets) p ps below), rest) refl

    all_read : map (λ p. get_or targets p d) places_all ≡ targets
    all_read = ext_get_or d _ targets (length-map-range_with_len (λ p. get_or targets p d) 0 (length targets))
        (λ i within. get_or-map-range_with_len (λ p. get_or targets p d) 0 (length targets) i i d (rw (length-map-range_with_len (λ p. get_or targets p d) 0 (length targets)) at within) (omega arith))

  -- read at the places, the keys are those of the targets that are read there
  keys_read : (places : List ℕ) → All (λ p. p < length targets) places → map (λ p. or_empty (target_at targets p)) places ≡ map (λ t. target_key (recorded_id t.id)) (filter_map (slice_get targets) places)
  keys_read [] below = refl
  keys_read (p ∷ ps) below =
      let t = some_at targets p (All-head (λ q. q < length targets) p ps below) in
      rw (t.1, keys_read ps (All-tail (λ q. q < length targets) p ps below)) refl

-- the targets at the places of all are the targets
read_permutation : (targets : List BuildTargetRecord) (places : List ℕ) → IsPermutation (range_with_len 0 (length targets)) places → All (λ p. p < length targets) places → IsPermutation targets (filter_map (slice_get targets) places)
read_permutation [] [] same below = IsPermutation-refl []
read_permutation [] (p ∷ ps) same below = let few = All-head (λ q. q < 0) p ps below in absurd (omega arith)
read_permutation (t ∷ ts) places same below =
    let targets : List BuildTargetRecord = t ∷ ts in
    let at : ℕ → BuildTargetRecord = λ p. get_or targets p t in
    subst (λ l. IsPermutation l (filter_map (slice_get targets) places)) (all_read targets t)
    (subst (λ l. IsPermutation (map at (range_with_len 0 (length targets))) l) (sym (reads targets t places below))
    (IsPermutation-map at (range_with_len 0 (length targets)) places same))

module _ (targets : List BuildTargetRecord) (index : List ℕ) (up : IsTargetIndex targets index) where
  targets_all : IsPermutation (range_with_len 0 (length targets)) index
  targets_all = index_of_all (slice_cmp nat_cmp) (target_at targets) (length targets) (λ p below. let t = some_at targets p below in rw t.1 refl) index up

  pub targets_below : All (λ p. p < length targets) index
  targets_below = All-permutation (λ p. p < length targets) (range_with_len 0 (length targets)) index targets_all (below_range (length targets))

  -- at the places of an index the targets stand in the order of their IDs
  pub targets_by_id : DifferBelow (HasTarget targets) (length targets) → AreTargetsById targets (filter_map (slice_get targets) index)
  targets_by_id differ = record {
    permutation = read_permutation targets index targets_all targets_below;
    ascend = IsStrictlySortedBy-map target_id_cmp (λ t. recorded_id t.id) (filter_map (slice_get targets) index)
        (IsStrictlySortedBy-from_map (slice_cmp nat_cmp) (λ t. target_key (recorded_id t.id)) (filter_map (slice_get targets) index)
        (subst (IsStrictlySortedBy (slice_cmp nat_cmp)) (keys_read targets index targets_below)
        (index_ascends (slice_cmp nat_cmp) nat_list_cmp_total (target_at targets) (length targets) index up (keys_differ targets (length targets) differ))));
  }

-- as many targets are read as there are places
pub targets_read : (targets : List BuildTargetRecord) (places : List ℕ) → All (λ p. p < length targets) places → length (filter_map (slice_get targets) places) ≡ length places
targets_read targets [] below = refl
targets_read targets (p ∷ ps) below =
    let t = some_at targets p (All-head (λ q. q < length targets) p ps below) in
    rw t.1 (ap suc (targets_read targets ps (All-tail (λ q. q < length targets) p ps below)))
