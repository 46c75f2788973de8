-- The IDs of packages, and the positions that they name.
use Rattle.std.specs.Prelude.{◌≡◌, ℕ, List, Option, Some, slice_get, IsSomeAnd, map}
use Rattle.guppy_search.specs.declared.ix.index_type.PackageIx.{PackageIx}
use Rattle.guppy_data.specs.declared.records.PackageRecord.{PackageRecord}
use Rattle.guppy_graph.specs.Keys.{item_key, DifferBelow}

-- the position that an index stands for
abbrev pub ix_position : PackageIx → ℕ
ix_position ix = ix.0

-- the IDs of the packages, by position
abbrev pub ids_of : List PackageRecord → List (List ℕ)
ids_of packages = map (λ r. r.id) packages

-- the ID of the package at the position
abbrev pub id_at : List PackageRecord → ℕ → Option (List ℕ)
id_at = item_key (λ r. Some r.id)

-- the package at the position has the ID
abbrev pub HasId : List PackageRecord → List ℕ → ℕ → Type 0
HasId packages id p = IsSomeAnd (slice_get packages p) (λ r. r.id ≡ id)

-- some package has the ID
abbrev pub IsKnown : List PackageRecord → List ℕ → Type 0
IsKnown packages id = (p : ℕ) × HasId packages id p

-- the packages with positions below n have different IDs
abbrev pub DistinctBelow : List PackageRecord → ℕ → Type 0
DistinctBelow packages = DifferBelow (HasId packages)
