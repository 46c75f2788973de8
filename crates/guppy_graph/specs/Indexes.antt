-- The indexes of a package graph: positions in the order of IDs, paths, names and target IDs.
use Rattle.std.specs.Prelude.{ℕ, List, length}
use Rattle.std.specs.List.{AllZip}
use Rattle.std.specs.Ordering.{nat_cmp}
use Rattle.std.specs.Cmp.Lexicographic.{slice_cmp}
use Rattle.std.specs.declared.vec.Vec.{Vec}
use Rattle.std.specs.declared.alloc.Global.{Global}
use Rattle.guppy_data.specs.Path.{path_cmp}
use Rattle.guppy_data.specs.declared.records.PackageRecord.{PackageRecord}
use Rattle.guppy_data.specs.declared.records.BuildTargetRecord.{BuildTargetRecord}
use Rattle.guppy_graph.specs.declared.build.Indexes.{Indexes}
use Rattle.guppy_graph.specs.Keys.{IsIndex}
use Rattle.guppy_graph.specs.Ids.{id_at}
use Rattle.guppy_graph.specs.Members.{path_at, name_at}
use Rattle.guppy_graph.specs.Targets.{target_at}

-- the packages by ID
abbrev pub IsIdIndex : List PackageRecord → List ℕ → Type 0
IsIdIndex packages = IsIndex (slice_cmp nat_cmp) (id_at packages) (length packages)

-- the workspace members by path
abbrev pub IsPathIndex : List PackageRecord → List ℕ → Type 0
IsPathIndex packages = IsIndex path_cmp (path_at packages) (length packages)

-- the workspace members by name
abbrev pub IsNameIndex : List PackageRecord → List ℕ → Type 0
IsNameIndex packages = IsIndex (slice_cmp nat_cmp) (name_at packages) (length packages)

-- the build targets of a package by ID
abbrev pub IsTargetIndex : List BuildTargetRecord → List ℕ → Type 0
IsTargetIndex targets = IsIndex (slice_cmp nat_cmp) (target_at targets) (length targets)

-- one index of build targets for each package
abbrev pub AreTargetIndexes : List PackageRecord → List (Vec ℕ Global) → Type 0
AreTargetIndexes = AllZip (λ r index. IsTargetIndex r.build_targets.items index.items)

-- the indexes of the packages
pub record AreIndexes (packages : List PackageRecord) (indexes : Indexes) : Type 0 where
  pub by_id : IsIdIndex packages indexes.by_id.items
  pub by_path : IsPathIndex packages indexes.by_path.items
  pub by_name : IsNameIndex packages indexes.by_name.items
  pub by_target : AreTargetIndexes packages indexes.by_target.items
