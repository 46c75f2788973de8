-- What the rows say.
use Rattle.std.proofs.Common.{◌≡◌, ◌∙◌, ℕ, ◌+◌, ◌≤◌, Bool, List, [], ◌∷◌, ◌++◌, length, map, refl, ap, subst, arith}
use Rattle.std.specs.Prelude.{◌↔◌, IsTrue, slice_get, Some, IsSomeAnd}
use Rattle.std.specs.Borrow.{Bor}
use Rattle.std.specs.String.{string_bytes}
use Rattle.std.proofs.lemmas.List.{length-map, map_push}
use Rattle.std.proofs.lemmas.Option.{slice_get_within}
use Rattle.guppy_core.specs.Listing.{Stands}
use Rattle.guppy_graph.proofs.Lists.{in_some, some_of}
use Rattle.guppy_data.specs.declared.records.PackageRecord.{PackageRecord}
use Rattle.guppy_graph.specs.Graph.{GraphData}
use Rattle.guppy.specs.Views.{graph_of, graph_packages, package_position}
use Rattle.guppy.specs.declared.metadata.PackageMetadata.{PackageMetadata}
use Rattle.guppy_extras.specs.Duplicates.{HasNamesake, AreDuplicates, row_of}
use Rattle.guppy_extras.specs.Sorted.{AreSorted}
use Rattle.guppy_extras.proofs.KeptPositions.{IsKept, kept_more, kept_once, kept_all}
use Rattle.guppy_extras.proofs.NamedAlike.{graph_is, in_order, position_at, positions_all, range_once, range_stands}
use Rattle.guppy_extras.proofs.NameOrder.{records_total, not_behind}

-- the rows of the positions that were kept of those before the place
pub record AreRows (g : GraphData) (ms : List PackageMetadata) (place : ℕ) (rows : List (List (List ℕ))) : Type 0 where
  pub order : List ℕ
  pub kept : IsKept (map package_position ms) (HasNamesake g.packages) place order
  pub rows_are : rows ≡ map (row_of g) order

module _ (g : Bor GraphData) (ms : List PackageMetadata) (sorted : AreSorted g ms) where
  -- what is told of the package at the place
  pub told_at : (k : ℕ) (m : PackageMetadata) → slice_get ms k ≡ Some m → (found : Bool) → IsSomeAnd (slice_get ms k) (λ n. IsTrue found ↔ HasNamesake (graph_packages n) (package_position n)) → IsTrue found ↔ HasNamesake g.now.packages (package_position m)
  told_at k m at found told =
      subst (λ (h : Bor GraphData). IsTrue found ↔ HasNamesake h.now.packages (package_position m)) (graph_is g ms sorted k m at)
      (in_some (slice_get ms k) (λ n. IsTrue found ↔ HasNamesake (graph_packages n) (package_position n)) m at told)

  -- one more row
  pub rows_more : (k : ℕ) (m : PackageMetadata) → slice_get ms k ≡ Some m → HasNamesake g.now.packages (package_position m) → (rows : List (List (List ℕ))) (row : List (List ℕ)) → AreRows g.now ms k rows → row ≡ row_of (graph_of m).now (package_position m) → AreRows g.now ms (k + 1) (rows ++ row ∷ [])
  rows_more k m at named rows row was is = record {
    order = was.order ++ package_position m ∷ [];
    kept = kept_more (map package_position ms) (HasNamesake g.now.packages) k was.order was.kept (package_position m) (position_at g ms sorted k m at) named;
    rows_are =
        let own : row ≡ row_of g.now (package_position m) = is ∙ ap (λ (h : Bor GraphData). row_of h.now (package_position m)) (graph_is g ms sorted k m at) in
        rw (map_push (row_of g.now) was.order (package_position m), own, was.rows_are) refl;
  }

  stands_named : (p : ℕ) → HasNamesake g.now.packages p → Stands (map package_position ms) p
  stands_named p (name, q, apart, has_p, has_q) =
      let own = some_of (slice_get g.now.packages p) (λ (r : PackageRecord). string_bytes r.name ≡ name) has_p in
      range_stands (length g.now.packages) (map package_position ms) (positions_all g ms sorted) p (slice_get_within g.now.packages p own.0 own.1)

  -- all rows
  pub rows_all : (k : ℕ) (rows : List (List (List ℕ))) → length ms ≤ k → AreRows g.now ms k rows → AreDuplicates g.now rows
  rows_all k rows past are =
      let positions = map package_position ms in
      let count = length-map ms package_position in
      let all = kept_all positions (HasNamesake g.now.packages) k are.order are.kept (omega arith) in
      record {
        order = are.order;
        once = kept_once positions (HasNamesake g.now.packages) k are.order are.kept (range_once (length g.now.packages) positions (positions_all g ms sorted));
        duplicates = λ p. (λ s. ((all p).0 s).1, λ named. (all p).1 (stands_named p named, named));
        ascends = λ x y before.
            let there = are.kept.in_turn x y before in
            let least = there.2 in
            not_behind records_total (slice_get g.now.packages x) (slice_get g.now.packages y) (in_order g ms sorted there.0 there.1 x y (omega arith) there.3 there.4);
        rows_are = are.rows_are;
      }
