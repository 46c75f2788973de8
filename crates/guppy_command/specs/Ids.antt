-- IDs of packages, and their names with versions.
use Rattle.std.specs.Prelude.{ℕ, Bool, false, List, [], ◌∷◌, ◌++◌, codes, string_bytes}
use Rattle.std.specs.List.{list_any}
use Rattle.std.specs.Str.{bytes_eq}
use Rattle.semver.specs.Identifiers.{version_text}
use Rattle.guppy_data.specs.declared.records.PackageRecord.{PackageRecord}

-- one of the packages has the ID
abbrev pub has_id : List ℕ → List PackageRecord → Bool
has_id id packages = list_any (λ r. bytes_eq id r.id) packages

-- the ID is the only one of these
abbrev pub is_only : List ℕ → List (List ℕ) → Bool
is_only id (other ∷ []) = bytes_eq id other
is_only id _ = false

-- `name@version`
abbrev pub full_name_of : PackageRecord → List ℕ
full_name_of r = string_bytes r.name ++ codes "@" ++ version_text r.version
