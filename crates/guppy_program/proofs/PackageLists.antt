-- The list of all packages.
use Rattle.std.proofs.Common.{◌≡◌, ◌∙◌, sym, ap, ℕ, ◌<◌, true, List, [], ◌∷◌, length, replicate, refl, arith, All}
use Rattle.std.specs.Prelude.{◌++◌, map}
use Rattle.std.specs.List.{concat, filter}
use Rattle.std.proofs.lemmas.List.{get_or-replicate, map_push}
use Rattle.std.proofs.lemmas.List.Elements.{All-tail}
use Rattle.std.proofs.lemmas.Option.{slice_get-get_or}
use Rattle.guppy_search.specs.IxSet.{has}
use Rattle.guppy_core.specs.Listing.{IsListing}
use Rattle.guppy_search.specs.declared.ix.direction.DependencyDirection.TheVariants.{Forward}
use Rattle.guppy_graph.specs.Graph.{GraphData}
use Rattle.guppy.specs.Listed.{ids_at, positions_listed}
use Rattle.guppy.specs.Query.{SetData}

-- the set of all positions keeps each one
kept_by_all : (n : ℕ) (order : List ℕ) → All (λ p. p < n) order → filter (has (replicate n true)) order ≡ order
kept_by_all n [] below = refl
kept_by_all n (p ∷ ps) below =
    let here : has (replicate n true) p ≡ true = get_or-replicate n p true _ (below 0 0 (omega arith)) in
    rw here (ap (λ rest. p ∷ rest) (kept_by_all n ps (All-tail (λ q. q < n) p ps below)))

-- the set of all packages lists the whole order
pub all_listed : (g : GraphData) (s : SetData) → s.graph ≡ g → s.included ≡ replicate (length g.packages) true → IsListing (length g.packages) (concat g.components)
    → ids_at s.graph.packages (positions_listed Forward s) ≡ ids_at g.packages (concat g.components)
all_listed g s same all listing = rw (same, all) (ap (ids_at g.packages) (kept_by_all (length g.packages) (concat g.components)
    (λ k d within. listing.below k _ (slice_get-get_or (concat g.components) k d within))))

-- one more item, which is seen as another one is
pub seen_push : {X Y Z : Type 0} (f : X → Z) (h : Y → Z) (xs new : List X) (ys : List Y) (x : X) (y : Y) → new ≡ xs ++ x ∷ [] → map f xs ≡ map h ys → f x ≡ h y → map f new ≡ map h (ys ++ y ∷ [])
seen_push f h xs new ys x y pushed same one =
    ap (map f) pushed ∙ map_push f xs x ∙ ap (λ l. l ++ f x ∷ []) same ∙ ap (λ z. map h ys ++ z ∷ []) one ∙ sym (map_push h ys y)
