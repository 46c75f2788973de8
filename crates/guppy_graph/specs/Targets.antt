-- The build targets of packages.
use Rattle.std.specs.Prelude.{◌≡◌, ℕ, List, ◌∷◌, length, map, Option, option_map, slice_get, IsSome, IsSomeAnd, All}
use Rattle.std.specs.List.Sorted.{IsPermutation, IsStrictlySortedBy}
use Rattle.guppy_data.specs.declared.records.PackageRecord.{PackageRecord}
use Rattle.guppy_data.specs.declared.records.BuildTargetRecord.{BuildTargetRecord}
use Rattle.guppy_data.specs.BuildTargetId.{TargetId, rank_of, name_or_empty, recorded_id, target_id_cmp}
use Rattle.guppy_data.specs.TargetName.{target_name}
use Rattle.guppy_graph.specs.First.{IsFirstWithout}
use Rattle.guppy_graph.specs.Keys.{DifferBelow, IsFirstRepeat}

-- the kind's place among the kinds, and then the name
abbrev pub target_key : TargetId → List ℕ
target_key id = rank_of id ∷ name_or_empty id

-- the key of the target at the place
abbrev pub target_at : List BuildTargetRecord → ℕ → Option (List ℕ)
target_at targets t = option_map (λ r. target_key (recorded_id r.id)) (slice_get targets t)

-- the target at the place has the ID
abbrev pub HasTarget : List BuildTargetRecord → TargetId → ℕ → Type 0
HasTarget targets id t = IsSomeAnd (slice_get targets t) (λ r. recorded_id r.id ≡ id)

-- the target has a name: a library or a build script has its own, any other the one in its ID
abbrev pub IsNamed : BuildTargetRecord → Type 0
IsNamed target = IsSome (target_name target)

-- the targets of the package have different IDs
abbrev pub AreTargetsDistinct : PackageRecord → Type 0
AreTargetsDistinct r = DifferBelow (HasTarget r.build_targets.items) (length r.build_targets.items)

-- each library and build script of the package has its name
abbrev pub AreTargetsNamed : PackageRecord → Type 0
AreTargetsNamed r = All IsNamed r.build_targets.items

-- the target is the first of its package that has the ID of an earlier one, and the packages before
-- have no such target
pub record IsFirstRepeatedTarget (packages : List PackageRecord) (p t : ℕ) : Type 0 where
  pub first : IsFirstWithout AreTargetsDistinct packages p
  pub repeated : IsFirstRepeat (HasTarget first.item.build_targets.items) t

-- the target is the first of its package that lacks its name, and the packages before have no such
-- target
pub record IsFirstUnnamedTarget (packages : List PackageRecord) (p t : ℕ) : Type 0 where
  pub first : IsFirstWithout AreTargetsNamed packages p
  pub unnamed : IsFirstWithout IsNamed first.item.build_targets.items t

-- exactly the targets, each once, strictly ascending by ID
pub record AreTargetsById (targets listed : List BuildTargetRecord) : Type 0 where
  pub permutation : IsPermutation targets listed
  pub ascend : IsStrictlySortedBy target_id_cmp (map (λ t. recorded_id t.id) listed)
