-- The lists of a set of packages.
use Rattle.std.proofs.Common.{◌≡◌, ◌∙◌, sym, ap, refl, arith, ℕ, zero, suc, ◌<◌, List, [], ◌∷◌, length, Option, Some, None, map, All}
use Rattle.std.specs.Prelude.{IsSomeAnd, slice_get}
use Rattle.std.specs.Option.{option_and_then}
use Rattle.std.specs.List.{filter_map, cons_option}
use Rattle.std.proofs.lemmas.List.Elements.{All-tail}
use Rattle.guppy_data.specs.declared.records.PackageRecord.{PackageRecord}
use Rattle.std.specs.Vec.Iter.{into_iter_items}
use Rattle.guppy.specs.declared.set.lists.ListedPackageIds.{ListedPackageIds}
use Rattle.guppy.specs.declared.set.roots.RootIds.{RootIds}
use Rattle.guppy_graph.specs.Graph.{GraphData}
use Rattle.guppy_graph.specs.Ids.{id_at, ix_position}
use Rattle.guppy.specs.declared.metadata.PackageMetadata.{PackageMetadata}
use Rattle.guppy.specs.Views.{PackageData, package_in, package_data, graph_packages, package_position, OfPackage}
use Rattle.guppy.specs.Listed.{id_of, ids_at, listed_ids_left, listed_left}
use Rattle.guppy.specs.Rooted.{roots_left, root_ids_left}

id_found : (o : Option PackageRecord) (id : List ℕ) → IsSomeAnd o (λ r. id ≡ r.id) → option_and_then (λ r. Some r.id) o ≡ Some id
id_found None id h = absurd h
id_found (Some r) id h = ap Some (sym h)

id_there : (packages : List PackageRecord) (p : ℕ) → p < length packages → (id : List ℕ) × (id_at packages p ≡ Some id)
id_there [] p h = absurd (omega arith)
id_there (r ∷ rs) zero h = (r.id, refl)
id_there (r ∷ rs) (suc p) h = id_there rs p (omega arith)

-- each package of a graph has an ID
pub ids_at-count : (packages : List PackageRecord) (ps : List ℕ) → All (λ p. p < length packages) ps → length (ids_at packages ps) ≡ length ps
ids_at-count packages [] below = refl
ids_at-count packages (p ∷ ps) below =
    let first = id_there packages p (below 0 0 (omega arith)) in
    ap (λ o. length (cons_option o (ids_at packages ps))) first.1
    ∙ ap suc (ids_at-count packages ps (All-tail (λ q. q < length packages) p ps below))

-- so has each as a value
ids_count : {X : Type 0} (f : X → ℕ) (g : GraphData) (xs : List X) → All (λ x. f x < length g.packages) xs → length (filter_map id_of (map (λ x. package_in g (f x)) xs)) ≡ length (map (λ x. package_in g (f x)) xs)
ids_count f g [] below = refl
ids_count f g (x ∷ xs) below =
    let first = id_there g.packages (f x) (below 0 x (omega arith)) in
    ap (λ o. length (cons_option o (filter_map id_of (map (λ y. package_in g (f y)) xs)))) first.1
    ∙ ap suc (ids_count f g xs (All-tail (λ y. f y < length g.packages) x xs below))

-- the IDs of packages as values
pub ids_of_seen : (g : GraphData) (ps : List ℕ) → filter_map id_of (map (package_in g) ps) ≡ ids_at g.packages ps
ids_of_seen g [] = refl
ids_of_seen g (p ∷ ps) = ap (cons_option (id_at g.packages p)) (ids_of_seen g ps)

pub listed_ids_left-count : (s : ListedPackageIds) → length (listed_ids_left s) ≡ length (listed_left s.packages)
listed_ids_left-count s = ids_count (λ p. p) s.packages.graph.now s.packages.rest s.packages.in_graph

pub root_ids_left-count : (s : RootIds) → length (root_ids_left s) ≡ length (roots_left s.packages)
root_ids_left-count s = ids_count ix_position s.packages.graph.now (into_iter_items s.packages.rest) s.packages.in_graph

-- where a package comes first, its ID does
module _ (left rest : List PackageData) (here : PackageMetadata) (id : List ℕ) (steps : left ≡ package_data here ∷ rest) (is : OfPackage here (λ r. id ≡ r.id)) where
  pub ids_first : filter_map id_of left ≡ id ∷ filter_map id_of rest
  ids_first = ap (filter_map id_of) steps ∙ ap (λ o. cons_option o (filter_map id_of rest)) (id_found (slice_get (graph_packages here) (package_position here)) id is)

  pub ids_fewer : length (filter_map id_of rest) < length (filter_map id_of left)
  ids_fewer = let count = ap length ids_first in omega (arith, count)
