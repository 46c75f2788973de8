-- Which build targets a package has.
use Rattle.std.specs.Prelude.{◌≡◌, ◌≢◌, List, Option, MatchOption, All, Any}
use Rattle.std.specs.List.{Contains}
use Rattle.guppy_data.specs.BuildTarget.{seen_target}
use Rattle.guppy_data.specs.BuildTargetId.{TargetId, Library, BuildScript, recorded_id}
use Rattle.guppy_data.specs.BuildTargetKind.{ProcMacro, recorded_kind}
use Rattle.guppy_data.specs.declared.records.BuildTargetRecord.{BuildTargetRecord}
use Rattle.guppy_data.specs.declared.records.PackageRecord.{PackageRecord}
use Rattle.guppy_data.specs.declared.views.build_target.BuildTarget.{BuildTarget}

-- the package has a library, and a procedural macro is made of it
abbrev pub IsProcMacro : PackageRecord → Type 0
IsProcMacro r = Any (λ t. (recorded_id t.id ≡ Library)
    × (recorded_kind t.kind ≡ ProcMacro)) r.build_targets.items

-- the package has a build script
abbrev pub HasBuildScript : PackageRecord → Type 0
HasBuildScript r = Any (λ t. recorded_id t.id ≡ BuildScript) r.build_targets.items

-- the target is one of the list and has the ID
abbrev pub IsTargetWith : List BuildTargetRecord → TargetId → BuildTargetRecord → Type 0
IsTargetWith targets id t = Contains targets t × (recorded_id t.id ≡ id)

-- no target of the list has the ID
abbrev pub NoTargetWith : List BuildTargetRecord → TargetId → Type 0
NoTargetWith targets id = All (λ t. recorded_id t.id ≢ id) targets

-- the package's target with the ID, if there is one
abbrev pub IsTargetOf : PackageRecord → TargetId → Option BuildTarget → Type 0
IsTargetOf r id found = MatchOption found (NoTargetWith r.build_targets.items id)
    (λ t. IsTargetWith r.build_targets.items id (seen_target t))
