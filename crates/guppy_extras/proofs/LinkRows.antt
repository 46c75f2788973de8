-- The IDs of the packages that links leave.
use Rattle.std.proofs.Common.{◌≡◌, ◌∙◌, refl, sym, ap, subst, ℕ, ◌+◌, Bool, true, false, List, [], ◌∷◌, ◌++◌, length, map, append_assoc, length-append, arith, Option, Some, None}
use Rattle.std.specs.Prelude.{◌==◌, slice_get, IsSomeAnd}
use Rattle.std.specs.Borrow.{Bor}
use Rattle.std.specs.List.{cons_option, filter, filter_map}
use Rattle.std.specs.Option.{option_and_then}
use Rattle.std.proofs.lemmas.List.{append-nil, map_push}
use Rattle.guppy_search.specs.Links.{numbers_where}
use Rattle.guppy_search.specs.declared.graph_core.link.Link.{Link}
use Rattle.guppy_search.specs.declared.ix.direction.DependencyDirection.TheVariants.{Reverse}
use Rattle.guppy_data.specs.declared.records.LinkRecord.{LinkRecord}
use Rattle.guppy_data.specs.declared.records.PackageRecord.{PackageRecord}
use Rattle.guppy.specs.DirectLinks.{links_leaving}
use Rattle.guppy_graph.specs.Graph.{GraphData}
use Rattle.guppy_graph.specs.Ids.{id_at}
use Rattle.guppy.specs.Listed.{ids_at}
use Rattle.guppy.specs.Views.{graph_of, graph_packages, package_position, link_graph, link_number, link_seen, OfPackage, OfLink}
use Rattle.guppy.specs.declared.link.PackageLink.{PackageLink}
use Rattle.guppy.specs.declared.metadata.PackageMetadata.{PackageMetadata}
use Rattle.guppy_extras.specs.Duplicates.{needing, row_of}

-- the ID of the package that the link leaves
abbrev left_id : Bor GraphData × ℕ → Option (List ℕ)
left_id link = option_and_then (λ (l : Link LinkRecord). id_at link.0.now.packages l.from) (slice_get link.0.now.links link.1)

-- those of the packages that the links leave
abbrev pub ids_left : List (Bor GraphData × ℕ) → List (List ℕ)
ids_left links = filter_map left_id links

at_seam : {A : Type 0} (xs ys : List A) (y : A) → slice_get (xs ++ y ∷ ys) (length xs) ≡ Some y
at_seam [] ys y = refl
at_seam (x ∷ xs) ys y = at_seam xs ys y

module _ (g : Bor GraphData) (p : ℕ) where
  abbrev ends_here : Link LinkRecord → Bool
  ends_here l = l.to == p

  -- what the links with these numbers are, and what they leave
  abbrev are_rows : ℕ → List (Link LinkRecord) → Type 0
  are_rows start back = ids_left (map (λ n. (g, n)) (numbers_where ends_here start back)) ≡ ids_at g.now.packages (map (λ (l : Link LinkRecord). l.from) (filter ends_here back))

  one_more : (l : Link LinkRecord) (back : List (Link LinkRecord)) (start : ℕ) → slice_get g.now.links start ≡ Some l → are_rows (start + 1) back → are_rows start (l ∷ back)
  one_more l back start here rest = by (ends_here l) refl
    where
      by : (b : Bool) → ends_here l ≡ b → are_rows start (l ∷ back)
      by true is = rw is (
          ap (λ o. cons_option (option_and_then (λ (k : Link LinkRecord). id_at g.now.packages k.from) o) (ids_left (map (λ n. (g, n)) (numbers_where ends_here (start + 1) back)))) here
          ∙ ap (cons_option (id_at g.now.packages l.from)) rest)
      by false is = rw is rest

  ids_behind : (front back : List (Link LinkRecord)) (start : ℕ) → g.now.links ≡ front ++ back → length front ≡ start → are_rows start back
  ids_behind front [] start all long = refl
  ids_behind front (l ∷ back) start all long = one_more l back start
      (rw (all, ← long) (at_seam front back l))
      (ids_behind (front ++ l ∷ []) back (start + 1) (all ∙ sym (append_assoc front (l ∷ []) back)) (let e = length-append front (l ∷ []) in omega arith))

-- the links from a package's dependents leave the packages that need it
pub ids_of_dependents : (m : PackageMetadata) → ids_left (links_leaving m Reverse) ≡ ids_at (graph_packages m) (needing (graph_of m).now (package_position m))
ids_of_dependents m = ids_behind (graph_of m) (package_position m) [] (graph_of m).now.links 0 refl refl

id_of : (o : Option PackageRecord) (id : List ℕ) → IsSomeAnd o (λ r. id ≡ r.id) → option_and_then (λ (r : PackageRecord). Some r.id) o ≡ Some id
id_of None id h = absurd h
id_of (Some r) id h = ap Some (sym h)

id_behind : (packages : List PackageRecord) (o : Option (Link LinkRecord)) (p : ℕ) (id : List ℕ) → IsSomeAnd o (λ l. p ≡ l.from) → IsSomeAnd (slice_get packages p) (λ r. id ≡ r.id) → option_and_then (λ (l : Link LinkRecord). id_at packages l.from) o ≡ Some id
id_behind packages None p id h of = absurd h
id_behind packages (Some l) p id h of = subst (λ q. id_at packages q ≡ Some id) h (id_of (slice_get packages p) id of)

-- the ID of a package stands first
pub own_first : (m : PackageMetadata) (id : List ℕ) → OfPackage m (λ r. id ≡ r.id) → row_of (graph_of m).now (package_position m) ≡ id ∷ ids_at (graph_packages m) (needing (graph_of m).now (package_position m))
own_first m id of = ap (λ o. cons_option o (ids_at (graph_packages m) (needing (graph_of m).now (package_position m)))) (id_of (slice_get (graph_packages m) (package_position m)) id of)

-- the ID of the package that the next link leaves
pub next_id : (link : PackageLink) (rest : List (Bor GraphData × ℕ)) (m : PackageMetadata) (id : List ℕ) → graph_of m ≡ link_graph link → OfLink link (λ l. package_position m ≡ l.from) → OfPackage m (λ r. id ≡ r.id) → ids_left (link_seen link ∷ rest) ≡ id ∷ ids_left rest
next_id link rest m id same leaves of =
    ap (λ o. cons_option o (ids_left rest))
    (id_behind (link_graph link).now.packages (slice_get (link_graph link).now.links (link_number link)) (package_position m) id leaves
    (subst (λ (g : Bor GraphData). IsSomeAnd (slice_get g.now.packages (package_position m)) (λ r. id ≡ r.id)) same of))

-- one more ID goes from what is left to the row
pub row_more : (row rest left : List (List ℕ)) (id : List ℕ) → left ≡ id ∷ rest → (row ++ id ∷ []) ++ rest ≡ row ++ left
row_more row rest left id is = append_assoc row (id ∷ []) rest ∙ ap (λ l. row ++ l) (sym is)

-- a row with the package's own ID alone, and all that is left
pub row_begins : (m : PackageMetadata) (row : List (Bor (List ℕ))) (id : Bor (List ℕ)) (left : List (Bor GraphData × ℕ)) → row ≡ id ∷ [] → OfPackage m (λ r. id.now ≡ r.id) → left ≡ links_leaving m Reverse → map (λ (i : Bor (List ℕ)). i.now) row ++ ids_left left ≡ row_of (graph_of m).now (package_position m)
row_begins m row id left one of is = rw (one, is, ids_of_dependents m) (sym (own_first m id.now of))

-- the ID of one more
pub row_steps : (row more : List (Bor (List ℕ))) (left rest : List (Bor GraphData × ℕ)) (whole : List (List ℕ)) (link : PackageLink) (m : PackageMetadata) (id : Bor (List ℕ))
    → map (λ (i : Bor (List ℕ)). i.now) row ++ ids_left left ≡ whole → left ≡ link_seen link ∷ rest → more ≡ row ++ id ∷ [] → graph_of m ≡ link_graph link
    → OfLink link (λ l. package_position m ≡ l.from) → OfPackage m (λ r. id.now ≡ r.id) → map (λ (i : Bor (List ℕ)). i.now) more ++ ids_left rest ≡ whole
row_steps row more left rest whole link m id was step grown same leaves of =
    ap (λ l. map (λ (i : Bor (List ℕ)). i.now) l ++ ids_left rest) grown
    ∙ ap (λ ids. ids ++ ids_left rest) (map_push (λ (i : Bor (List ℕ)). i.now) row id)
    ∙ row_more (map (λ (i : Bor (List ℕ)). i.now) row) (ids_left rest) (ids_left left) id.now (ap ids_left step ∙ next_id link rest m id.now same leaves of)
    ∙ was

-- none is left
pub row_ends : (row : List (Bor (List ℕ))) (left : List (Bor GraphData × ℕ)) (whole : List (List ℕ)) → map (λ (i : Bor (List ℕ)). i.now) row ++ ids_left left ≡ whole → left ≡ [] → map (λ (i : Bor (List ℕ)). i.now) row ≡ whole
row_ends row left whole was none = sym (append-nil (map (λ (i : Bor (List ℕ)). i.now) row)) ∙ ap (λ l. map (λ (i : Bor (List ℕ)). i.now) row ++ ids_left l) (sym none) ∙ was
