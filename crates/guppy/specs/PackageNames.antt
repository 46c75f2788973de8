-- The names of packages.
use Rattle.std.specs.Prelude.{◌≡◌, ℕ, List, slice_get, IsSomeAnd}
use Rattle.std.specs.String.{string_bytes}
use Rattle.guppy_data.specs.declared.records.PackageRecord.{PackageRecord}

-- the package at the position has the name
abbrev pub HasPackageName : List PackageRecord → List ℕ → ℕ → Type 0
HasPackageName packages name p = IsSomeAnd (slice_get packages p) (λ r. string_bytes r.name ≡ name)
