-- The members of the workspace, their paths and their names.
use Rattle.std.specs.Prelude.{◌≡◌, ℕ, List, length, map, Option, option_map, is_some, true, IsSomeAnd}
use Rattle.std.specs.List.Sorted.{IsPermutation, IsStrictlySortedBy}
use Rattle.std.specs.Ordering.{nat_cmp}
use Rattle.std.specs.Cmp.Lexicographic.{slice_cmp}
use Rattle.std.specs.String.{string_bytes}
use Rattle.guppy_data.specs.Path.{path_cmp}
use Rattle.guppy_data.specs.declared.records.PackageRecord.{PackageRecord}
use Rattle.guppy_data.specs.PackageSource.{workspace_path, recorded_origin}
use Rattle.guppy_graph.specs.Keys.{or_empty, item_key, keyed, HasKey}

-- the path of a package that is in the workspace
abbrev pub member_path : PackageRecord → Option (List ℕ)
member_path r = workspace_path (recorded_origin r.source)

-- the name of a package that is in the workspace
abbrev pub member_name : PackageRecord → Option (List ℕ)
member_name r = option_map (λ _. string_bytes r.name) (member_path r)

-- the path of the member at the position
abbrev pub path_at : List PackageRecord → ℕ → Option (List ℕ)
path_at = item_key member_path

-- the name of the member at the position
abbrev pub name_at : List PackageRecord → ℕ → Option (List ℕ)
name_at = item_key member_name

-- the package at the position is a member with this path, as paths are equal
abbrev pub HasPath : List PackageRecord → List ℕ → ℕ → Type 0
HasPath packages = HasKey path_cmp (path_at packages)

-- the package at the position is a member with this name
abbrev pub HasName : List PackageRecord → List ℕ → ℕ → Type 0
HasName packages name p = IsSomeAnd (name_at packages p) (λ own. own ≡ name)

-- the package at the position is a member
abbrev pub IsMember : List PackageRecord → ℕ → Type 0
IsMember packages p = is_some (path_at packages p) ≡ true

-- some member has the path
abbrev pub IsMemberPath : List PackageRecord → List ℕ → Type 0
IsMemberPath packages path = (p : ℕ) × HasPath packages path p

-- some member has the name
abbrev pub IsMemberName : List PackageRecord → List ℕ → Type 0
IsMemberName packages name = (p : ℕ) × HasName packages name p

-- the positions of the members, ascending
abbrev pub members_of : List PackageRecord → List ℕ
members_of packages = keyed (path_at packages) (length packages)

-- exactly the members, each once, strictly ascending by path
pub record AreMembersByPath (packages : List PackageRecord) (members : List ℕ) : Type 0 where
  pub permutation : IsPermutation (members_of packages) members
  pub ascend : IsStrictlySortedBy path_cmp (map (λ p. or_empty (path_at packages p)) members)

-- exactly the members, each once, strictly ascending by name
pub record AreMembersByName (packages : List PackageRecord) (members : List ℕ) : Type 0 where
  pub permutation : IsPermutation (members_of packages) members
  pub ascend : IsStrictlySortedBy (slice_cmp nat_cmp)
      (map (λ p. or_empty (name_at packages p)) members)
