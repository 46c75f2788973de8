-- The names of a graph's packages, in the order in which the packages are given.
use Rattle.std.proofs.Common.{◌≡◌, ◌∙◌, sym, ap, ℕ, zero, suc, List, [], ◌∷◌, length, map, get_or, Bor, ext_get_or, Contains, Option, None, Some, arith}
use Rattle.std.specs.Prelude.{MatchOption, IsSomeAnd, slice_get, string_bytes}
use Rattle.std.specs.List.{range_with_len}
use Rattle.std.specs.List.Sorted.{IsPermutation}
use Rattle.std.proofs.lemmas.List.{get_or-map, length-map}
use Rattle.std.proofs.lemmas.List.FromFn.{get_or-map-range_with_len, length-map-range_with_len}
use Rattle.std.proofs.lemmas.List.Sorted.{Contains-permutation, IsPermutation-sym}
use Rattle.std.proofs.lemmas.Option.{slice_get_within, slice_get-get_or, get_or_from_slice_get}
use Rattle.guppy_data.specs.declared.records.PackageRecord.{PackageRecord}
use Rattle.guppy_graph.specs.Graph.{GraphData}
use Rattle.guppy.specs.Iterators.{packages_of}
use Rattle.guppy_arguments.specs.Names.{name_of}
use Rattle.guppy_arguments.specs.Nearest.{IsFar, IsNearest}
use Rattle.guppy_cargo.specs.Unknown.{IsFarFromNames, IsNearestName}

-- the name of the package that is seen
abbrev pub name_seen : Bor GraphData × ℕ → List ℕ
name_seen e = get_or (map name_of e.0.now.packages) e.1 []

pub name_at : (packages : List PackageRecord) (p : ℕ) (name : List ℕ) → IsSomeAnd (slice_get packages p) (λ r. name ≡ string_bytes r.name) → get_or (map name_of packages) p [] ≡ name
name_at [] p name h = absurd h
name_at (r ∷ packages) zero name h = sym h
name_at (r ∷ packages) (suc p) name h = name_at packages p name h

-- of all packages, these are the names of all
pub names_seen : (g : Bor GraphData) → map name_seen (packages_of g) ≡ map name_of g.now.packages
names_seen g =
    let packages = g.now.packages in
    let n = length packages in
    let seen : List (Bor GraphData × ℕ) = map (λ p. (g, p)) (range_with_len 0 n) in
    let many : length seen ≡ n = length-map-range_with_len (λ p. (g, p)) 0 n in
    let named : length (map name_seen seen) ≡ length seen = length-map seen name_seen in
    let all : length (map name_of packages) ≡ n = length-map packages name_of in
    ext_get_or [] (map name_seen seen) (map name_of packages) (named ∙ (many ∙ sym all)) (λ i low.
    get_or-map name_seen seen i (g, 0) [] (omega arith) ∙ ap name_seen (get_or-map-range_with_len (λ p. (g, p)) 0 n i i (g, 0) (omega arith) (omega arith)))

at_place : (names : List (List ℕ)) (name : List ℕ) → Contains names name → (k : ℕ) × (slice_get names k ≡ Some name)
at_place names name there = (there.0, slice_get-get_or names there.0 name there.1 ∙ ap Some there.2)

-- the nearest of these names in any order
pub nearest_among : (packages : List PackageRecord) (word : List ℕ) (names : List (List ℕ)) → IsPermutation (map name_of packages) names → (found : Option (Bor (List ℕ))) → MatchOption found (IsFar word names) (λ name. IsNearest word names name.now) → MatchOption found (IsFarFromNames packages word) (λ name. IsNearestName packages word name.now)
nearest_among packages word names all None far = λ name there.
    let at = at_place names name (Contains-permutation (map name_of packages) names name all there) in
    far at.0 name at.1
nearest_among packages word names all (Some near) is = record {
  one = Contains-permutation names (map name_of packages) near.now (IsPermutation-sym (map name_of packages) names all) (is.place, slice_get_within names is.place near.now is.at, get_or_from_slice_get names is.place near.now near.now is.at);
  close = is.close;
  least = λ name there. (let at = at_place names name (Contains-permutation (map name_of packages) names name all there) in is.least at.0 name at.1);
}
