-- Paths that are equal have the same components, and feed a hasher alike.
use Rattle.std.specs.Prelude.{◌≡◌, ℕ, true, List, [], ◌∷◌, refl}
use Rattle.std.proofs.Common.{ap}
use Rattle.std.specs.declared.cmp.Ordering.{Ordering}
use Rattle.std.specs.declared.cmp.Ordering.TheVariants.{Less, Equal, Greater}
use Rattle.std.specs.Ordering.{eq_by_cmp, ordering_then}
use Rattle.std.specs.Cmp.Lexicographic.{slice_cmp}
use Rattle.std.proofs.lemmas.Map.Lookups.{CmpEqualImpliesEq, exact_bytes}
use Rattle.std.proofs.lemmas.Map.Views.{tells_apart}
use Rattle.std.specs.List.{flat_map}
use Rattle.guppy_data.specs.Path.{Root, Current, Parent, Name, part_cmp, path_cmp, path_hash, part_hash, components}

-- two orders in turn answer `Equal` only where both do
both_equal : (v w : Ordering) → ordering_then v w ≡ Equal → (v ≡ Equal) × (w ≡ Equal)
both_equal Less w h = absurd (cc)
both_equal Equal w h = (refl, h)
both_equal Greater w h = absurd (cc)

-- components that are equal are the same
same_part : CmpEqualImpliesEq part_cmp
same_part Root Root h = refl
same_part Current Current h = refl
same_part Parent Parent h = refl
same_part (Name x) (Name y) h = ap Name (exact_bytes x y h)
same_part a b h = absurd (cc)

-- lists of components that are equal are the same
same_parts : CmpEqualImpliesEq (slice_cmp part_cmp)
same_parts [] [] h = refl
same_parts [] (b ∷ qs) h = absurd (cc)
same_parts (a ∷ ps) [] h = absurd (cc)
same_parts (a ∷ ps) (b ∷ qs) h =
    let equal = both_equal (part_cmp a b) (slice_cmp part_cmp ps qs) h in
    let first : a ≡ b = same_part a b equal.0 in
    let rest : ps ≡ qs = same_parts ps qs equal.1 in
    cc

-- paths that are equal have the same components
pub same_components : (p q : List ℕ) → eq_by_cmp path_cmp p q ≡ true → components p ≡ components q
same_components p q h = tells_apart same_parts (components p) (components q) h

-- paths that are equal feed a hasher alike
pub hashed_alike : (p q : List ℕ) → eq_by_cmp path_cmp p q ≡ true → path_hash p ≡ path_hash q
hashed_alike p q h = ap (flat_map part_hash) (same_components p q h)
