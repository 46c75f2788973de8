-- The links that leave a package, found by their numbers.
use Rattle.std.proofs.Common.{◌≡◌, ℕ, suc, ◌+◌, ◌<◌, ◌++◌, length, take, get_or, Bool, true, false, cond, List, [], ◌∷◌, Option, Some, None, map, refl, ap, ◌∙◌, arith, add-zero, zero-add, sym, ◌==◌}
use Rattle.std.specs.Prelude.{slice_get, filter}
use Rattle.std.specs.List.{flat_map}
use Rattle.std.proofs.lemmas.List.{take_more, flat_map_more}
use Rattle.std.proofs.lemmas.List.Folds.{flat_map-map}
use Rattle.guppy_search.specs.declared.graph_core.link.Link.{Link}
use Rattle.guppy_search.specs.declared.ix.direction.DependencyDirection.TheVariants.{Forward}
use Rattle.guppy_search.specs.Links.{numbers_where, links_at}
use Rattle.guppy_data.specs.declared.records.LinkRecord.{LinkRecord}
use Rattle.guppy_graph.specs.Graph.{GraphData}
use Rattle.guppy_features.specs.Dependencies.{DependencyData, dependencies, dependencies_of}

module _ {A : Type 0} (p : A → Bool) where
  -- the numbers of the elements that pass lead to these
  pub numbered_filter : (all xs : List A) (i : ℕ) → ((k : ℕ) → slice_get all (i + k) ≡ slice_get xs k) → map (slice_get all) (numbers_where p i xs) ≡ map Some (filter p xs)
  numbered_filter all [] i same = refl
  numbered_filter all (x ∷ xs) i same =
      let first : slice_get all i ≡ Some x = rw add-zero at (same 0) in
      let next : (k : ℕ) → slice_get all (i + 1 + k) ≡ slice_get xs k = λ k. let e : i + 1 + k ≡ i + suc k = omega arith in ap (slice_get all) e ∙ same (suc k) in
      let rest : map (slice_get all) (numbers_where p (i + 1) xs) ≡ map Some (filter p xs) = numbered_filter all xs (i + 1) next in
      elim (p x) as (λ b. map (slice_get all) (cond b (i ∷ numbers_where p (i + 1) xs) (numbers_where p (i + 1) xs)) ≡ map Some (cond b (x ∷ filter p xs) (filter p xs))) [
        | true ↦ cc
        | false ↦ rest
      ]

abbrev dependencies_if : Option (Link LinkRecord) → List DependencyData
dependencies_if (Some l) = dependencies_of l
dependencies_if None = []

-- those of the link of the number
abbrev pub dependencies_at : List (Link LinkRecord) → ℕ → List DependencyData
dependencies_at links n = dependencies_if (slice_get links n)

-- those of the numbers of the links that leave the package are the package's
pub dependencies_by_number : (g : GraphData) (p : ℕ) → flat_map (dependencies_at g.links) (links_at Forward g.links p) ≡ dependencies g p
dependencies_by_number g p =
    let from = λ (l : Link LinkRecord). l.from == p in
    sym (flat_map-map dependencies_if (slice_get g.links) (links_at Forward g.links p))
    ∙ ap (flat_map dependencies_if) (numbered_filter from g.links g.links 0 (λ k. ap (slice_get g.links) (zero-add k)))
    ∙ flat_map-map dependencies_if Some (filter from g.links)

-- one number more
pub dependencies_more : (links : List (Link LinkRecord)) (ns : List ℕ) (i : ℕ) (l : Link LinkRecord) → i < length ns → slice_get links (get_or ns i 0) ≡ Some l → flat_map (dependencies_at links) (take (i + 1) ns) ≡ flat_map (dependencies_at links) (take i ns) ++ dependencies_of l
dependencies_more links ns i l inside is =
    ap (flat_map (dependencies_at links)) (take_more ns i 0 inside)
    ∙ sym (flat_map_more (dependencies_at links) [] (take i ns) (get_or ns i 0))
    ∙ ap (λ found. flat_map (dependencies_at links) (take i ns) ++ dependencies_if found) is
