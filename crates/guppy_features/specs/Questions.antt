-- What is asked of a graph.
use Rattle.std.specs.Prelude.{ℕ, ◌==◌, Bool, true, false, ◌&&◌, ◌||◌, not, if◌then◌else◌, Option, Some, slice_get}
use Rattle.std.specs.List.{list_any}
use Rattle.std.specs.Option.{option_map_or}
use Rattle.guppy_data.specs.Platform.{Status, Never, Always, Dependent, status_value, recorded_status, question_of as platforms_of}
use Rattle.guppy_data.specs.declared.platform.ternary.EnabledTernary.{EnabledTernary}
use Rattle.guppy_data.specs.declared.platform.ternary.EnabledTernary.TheVariants.{Disabled, Unknown, Enabled}
use Rattle.guppy_data.specs.declared.platform.spec.PlatformSpec.{PlatformSpec}
use Rattle.guppy_data.specs.declared.texts.dependency_kind.DependencyKind.{DependencyKind}
use Rattle.guppy_data.specs.declared.texts.dependency_kind.DependencyKind.TheVariants.{Normal, Development, Build}
use Rattle.guppy_data.specs.declared.records.BuildTargetRecord.{BuildTargetRecord}
use Rattle.guppy_data.specs.declared.records.OwnedBuildTargetId.{OwnedBuildTargetId}
use Rattle.guppy_data.specs.declared.records.OwnedBuildTargetId.TheVariants.{Library}
use Rattle.guppy_data.specs.declared.records.BuildTargetKindRecord.{BuildTargetKindRecord}
use Rattle.guppy_data.specs.declared.records.BuildTargetKindRecord.TheVariants.{ProcMacro}
use Rattle.guppy_graph.specs.Graph.{GraphData}
use Rattle.guppy_target.specs.Answer.{answer_of}
use Rattle.guppy_target.specs.Platform.{PlatformData}
use Rattle.guppy_features.specs.declared.fact.BuildPlatform.{BuildPlatform}
use Rattle.guppy_features.specs.declared.fact.BuildPlatform.TheVariants.{Target, Host}
use Rattle.guppy_features.specs.declared.fact.Fact.{Fact}
use Rattle.guppy_features.specs.declared.options.CargoResolverVersion.{CargoResolverVersion}
use Rattle.guppy_features.specs.declared.options.CargoResolverVersion.TheVariants.{V1, V2, V3}
use Rattle.guppy_features.specs.declared.options.CargoOptions.{CargoOptions}
use Rattle.guppy_features.specs.declared.question.Asked.{Asked}
use Rattle.guppy_features.specs.Facts.{part, switched_fact}
use Rattle.guppy_features.specs.Dependencies.{DependencyData}

-- a graph, and what is asked of Cargo
pub record Question : Type 0 where
  pub graph : GraphData
  pub options : CargoOptions

abbrev pub question : GraphData → CargoOptions → Question
question g options = record { graph = g; options = options }

abbrev pub question_of : Asked → Question
question_of a = question a.graph.now a.options.now

-- whether it is resolver 1
abbrev pub is_first : CargoResolverVersion → Bool
is_first V1 = true
is_first V2 = false
is_first V3 = false

-- whether the sides are apart
abbrev pub splits : Question → Bool
splits q = not (is_first q.options.resolver)

-- whether the package is chosen
abbrev pub is_initial : Question → ℕ → Bool
is_initial q p = list_any (λ i. i.position == p) q.options.initials.items

abbrev pub is_library : OwnedBuildTargetId → Bool
is_library Library = true
is_library other = false

abbrev pub is_macro_kind : BuildTargetKindRecord → Bool
is_macro_kind ProcMacro = true
is_macro_kind other = false

-- whether the target is a library that is a procedural macro
abbrev pub is_macro_library : BuildTargetRecord → Bool
is_macro_library t = is_library t.id && is_macro_kind t.kind

-- whether the package has such a library
abbrev pub is_macro : Question → ℕ → Bool
is_macro q p = option_map_or (λ r. list_any is_macro_library r.build_targets.items)
    (slice_get q.graph.packages p) false

abbrev pub is_host : BuildPlatform → Bool
is_host Host = true
is_host Target = false

abbrev pub is_build : DependencyKind → Bool
is_build Build = true
is_build Normal = false
is_build Development = false

abbrev pub is_development : DependencyKind → Bool
is_development Development = true
is_development Normal = false
is_development Build = false

-- whether the status isn't never
abbrev pub is_present : Status → Bool
is_present Never = false
is_present Always = true
is_present (Dependent texts) = true

-- whether the value isn't off: on, or not known
abbrev pub may_be : EnabledTernary → Bool
may_be Disabled = false
may_be Unknown = true
may_be Enabled = true

-- the platforms that count for a package on the side, in the section: on the host's side, and for build dependencies,
-- the host's
abbrev pub platforms_for : Question → BuildPlatform → DependencyKind → PlatformSpec PlatformData
platforms_for q s section =
    if is_host s || is_build section then q.options.host_platform.now else q.options.target_platform.now

-- whether what has the status is on for a package on the side, in the section: where the sides are apart, if it may be
-- on the platforms that count there, else if it is on any at all
abbrev pub is_on : Question → BuildPlatform → DependencyKind → Status → Bool
is_on q s section status = if splits q
    then may_be (status_value answer_of status (platforms_of (platforms_for q s section)))
    else is_present status

-- whether dependencies of the section of the package count at all: dev-dependencies those of chosen packages alone,
-- and where the sides are apart with tests alone
abbrev pub may_ask : Question → ℕ → DependencyKind → Bool
may_ask q p section = not (is_development section)
    || ((q.options.tests || not (splits q)) && is_initial q p)

-- whether the dependency counts on the side
abbrev pub counts : Question → BuildPlatform → DependencyData → Bool
counts q s d = may_ask q d.from d.section && is_on q s d.section (recorded_status d.part.build_if)

-- the side that the dependency's package is on, for a package on the side: where they are apart, what is needed to
-- build, and procedural macros, are on the host's
abbrev pub side_of : Question → BuildPlatform → DependencyData → BuildPlatform
side_of q s d = if splits q && (is_build d.section || is_macro q d.to) then Host else s

-- what holds where the dependency is used on the side: that its package takes part, or that the optional one is
-- switched on
abbrev pub use_of : Question → BuildPlatform → DependencyData → Option Fact
use_of q s d =
    if d.is_optional then switched_fact q.graph.packages d.from s d.name else Some (part d.from s)
