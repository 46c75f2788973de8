-- Tests and lists of what is chosen, as loops make them.
use Rattle.std.proofs.Common.{◌≡◌, ℕ, ◌+◌, ◌<◌, ◌≤◌, Bool, true, false, IsTrue, All, List, [], ◌∷◌, ◌++◌, length, map, take, get_or, Option, Some, None, ◌==◌, zero-add, refl, ap, sym, subst, ◌∙◌}
use Rattle.std.specs.Prelude.{option_map, option_to_list, slice_get}
use Rattle.std.specs.List.{list_any, filter_map, cons_option}
use Rattle.std.specs.Option.{option_map_or}
use Rattle.std.specs.Str.{bytes_eq}
use Rattle.std.specs.String.{string_bytes}
use Rattle.std.proofs.lemmas.List.{take_more, take_all, take-map, map-append, append-nil}
use Rattle.std.proofs.lemmas.List.Elements.{All-push, filter_map-append}
use Rattle.std.proofs.lemmas.List.Folds.{list_any_at}
use Rattle.std.proofs.lemmas.Option.{slice_get-get_or, slice_get-map}
use Rattle.guppy_search.specs.declared.graph_core.link.Link.{Link}
use Rattle.guppy_search.specs.declared.ix.direction.DependencyDirection.TheVariants.{Forward}
use Rattle.guppy_search.specs.Links.{links_at}
use Rattle.guppy_data.specs.declared.records.LinkRecord.{LinkRecord}
use Rattle.guppy_data.proofs.ListedNames.{list_any-map}
use Rattle.guppy_graph.specs.Graph.{GraphData}
use Rattle.guppy_features.specs.Dependencies.{links_from}
use Rattle.guppy_features.proofs.LeavingLinks.{numbered_filter}

module _ (test : ℕ → Bool) (ns : List ℕ) (i : ℕ) where
  -- a number that passes is found
  pub any_found : i < length ns → test (get_or ns i 0) ≡ true → list_any test ns ≡ true
  any_found below passes = list_any_at test ns i 0 below passes

  -- none at all is
  pub none_found : length ns ≤ i → list_any test (take i ns) ≡ false → list_any test ns ≡ false
  none_found past none = rw (take_all i ns past) at none

one_made : {Y Z : Type 0} (h : Y → Option Z) (y : Y) → filter_map h (y ∷ []) ≡ option_to_list (h y)
one_made h y = elim (h y) as (λ o. cons_option o [] ≡ option_to_list o) [ Some z ↦ refl | None ↦ refl ]

module _ {X Y Z : Type 0} (seen : X → Y) (h : Y → Option Z) (xs : List X) (i : ℕ) (x : X) where
  -- what is made of one element more
  pub made_more : i < length xs → x ≡ get_or xs i x → filter_map h (map seen (take (i + 1) xs)) ≡ filter_map h (map seen (take i xs)) ++ option_to_list (h (seen x))
  made_more below at =
      let taken : take (i + 1) xs ≡ take i xs ++ x ∷ [] = take_more xs i x below ∙ ap (λ (y : X). take i xs ++ y ∷ []) (sym at) in
      let mapped : map seen (take (i + 1) xs) ≡ map seen (take i xs) ++ seen x ∷ [] = ap (map seen) taken ∙ map-append seen (take i xs) (x ∷ []) in
      ap (filter_map h) mapped ∙ filter_map-append h (map seen (take i xs)) (seen x ∷ [])
      ∙ ap (λ zs. filter_map h (map seen (take i xs)) ++ zs) (one_made h (seen x))

  module _ {V : Type 0} (told : V → Z) (vs : List V) (below : i < length xs) (at : x ≡ get_or xs i x) (made : map told vs ≡ filter_map h (map seen (take i xs))) where
    -- where nothing is made of it, and where this is
    pub made_none : h (seen x) ≡ None → map told vs ≡ filter_map h (map seen (take (i + 1) xs))
    made_none none =
        let front = filter_map h (map seen (take i xs)) in
        made ∙ sym (made_more below at ∙ ap (λ (o : Option Z). front ++ option_to_list o) none ∙ append-nil front)

    pub made_some : (v : V) → h (seen x) ≡ Some (told v) → map told (vs ++ v ∷ []) ≡ filter_map h (map seen (take (i + 1) xs))
    made_some v some =
        let front = filter_map h (map seen (take i xs)) in
        map-append told vs (v ∷ []) ∙ ap (λ (zs : List Z). zs ++ told v ∷ []) made
        ∙ sym (made_more below at ∙ ap (λ (o : Option Z). front ++ option_to_list o) some)

module _ {X Y : Type 0} (seen : X → Y) (test : Y → Bool) (xs : List X) (i : ℕ) where
  -- all that is seen passes
  abbrev Pass : List X → Type 0
  Pass ys = All (λ v. IsTrue (test v)) (map seen ys)

  module _ (x : X) (below : i < length xs) (at : x ≡ get_or xs i x) (pass : Pass (take i xs)) where
    -- up to the first that fails
    pub first_fails : test (seen x) ≡ false → All (λ v. IsTrue (test v)) (take i (map seen xs)) × (v : Y) × (slice_get (map seen xs) i ≡ Some v) × (test v ≡ false)
    first_fails fails = (
      subst (λ (vs : List Y). All (λ v. IsTrue (test v)) vs) (sym (take-map seen i xs)) pass,
      seen x,
      slice_get-map seen xs i ∙ ap (option_map seen) (slice_get-get_or xs i x below ∙ ap Some (sym at)),
      fails,
    )

    -- and one more
    pub more_pass : IsTrue (test (seen x)) → Pass (take (i + 1) xs)
    more_pass passes =
        let taken : take (i + 1) xs ≡ take i xs ++ x ∷ [] = take_more xs i x below ∙ ap (λ (y : X). take i xs ++ y ∷ []) (sym at) in
        let mapped : map seen (take (i + 1) xs) ≡ map seen (take i xs) ++ seen x ∷ [] = ap (map seen) taken ∙ map-append seen (take i xs) (x ∷ []) in
        subst (λ (vs : List Y). All (λ v. IsTrue (test v)) vs) (sym mapped) (All-push (λ (v : Y). IsTrue (test v)) (map seen (take i xs)) (seen x) pass passes)

  pub all_pass : length xs ≤ i → Pass (take i xs) → Pass xs
  all_pass past pass = subst (λ (ys : List X). Pass ys) (take_all i xs past) pass

-- the links of this name that leave the package, by their numbers
abbrev pub has_name : List ℕ → Link LinkRecord → Bool
has_name name l = bytes_eq (string_bytes l.edge.dep_name) name

abbrev pub has_name_at : List (Link LinkRecord) → List ℕ → ℕ → Bool
has_name_at links name n = option_map_or (has_name name) (slice_get links n) false

pub named_by_number : (g : GraphData) (p : ℕ) (name : List ℕ) → list_any (has_name_at g.links name) (links_at Forward g.links p) ≡ list_any (has_name name) (links_from g p)
named_by_number g p name =
    let test : Option (Link LinkRecord) → Bool = λ o. option_map_or (has_name name) o false in
    sym (list_any-map test (slice_get g.links) (links_at Forward g.links p))
    ∙ ap (list_any test) (numbered_filter (λ (l : Link LinkRecord). l.from == p) g.links g.links 0 (λ k. ap (slice_get g.links) (zero-add k)))
    ∙ list_any-map test Some (links_from g p)
