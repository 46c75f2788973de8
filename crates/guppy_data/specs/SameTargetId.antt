-- IDs of build targets that are equal are the same, and feed a hasher alike.
use Rattle.std.specs.Prelude.{◌≡◌, true, refl}
use Rattle.std.proofs.Common.{ap}
use Rattle.std.specs.Ordering.{eq_by_cmp}
use Rattle.std.proofs.lemmas.Map.Lookups.{CmpEqualImpliesEq, exact_bytes}
use Rattle.std.proofs.lemmas.Map.Views.{tells_apart}
use Rattle.guppy_data.specs.BuildTargetId.{TargetId, Library, BuildScript, Binary, Example, Test, Benchmark, target_id_cmp, target_id_hash}

-- IDs that are equal are the same
pub same_id : CmpEqualImpliesEq target_id_cmp
same_id Library Library h = refl
same_id BuildScript BuildScript h = refl
same_id (Binary x) (Binary y) h = ap Binary (exact_bytes x y h)
same_id (Example x) (Example y) h = ap Example (exact_bytes x y h)
same_id (Test x) (Test y) h = ap Test (exact_bytes x y h)
same_id (Benchmark x) (Benchmark y) h = ap Benchmark (exact_bytes x y h)
same_id a b h = absurd (cc)

-- IDs that are equal feed a hasher alike
pub hashed_alike : (a b : TargetId) → eq_by_cmp target_id_cmp a b ≡ true
    → target_id_hash a ≡ target_id_hash b
hashed_alike a b h = ap target_id_hash (tells_apart same_id a b h)
