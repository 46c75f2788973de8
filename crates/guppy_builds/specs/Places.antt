-- The platforms that are built for, each by itself.
use Rattle.std.specs.Prelude.{ℕ, Bool, ◌||◌, if◌then◌else◌, length, slice_get, option_to_list}
use Rattle.guppy_data.specs.Platform.{Status, Question as Platforms, OnPlatforms, OnAlways, OnAny, status_value, recorded_status, question_of as platforms_of}
use Rattle.guppy_data.specs.declared.platform.spec.PlatformSpec.{PlatformSpec}
use Rattle.guppy_data.specs.declared.platform.spec.PlatformSpec.TheVariants.{Always as SpecAlways, Platforms as SpecPlatforms, Any as SpecAny}
use Rattle.guppy_target.specs.Answer.{answer_of}
use Rattle.guppy_target.specs.Platform.{PlatformData}
use Rattle.guppy_features.specs.declared.fact.BuildPlatform.{BuildPlatform}
use Rattle.guppy_features.specs.declared.fact.BuildPlatform.TheVariants.{Target as TargetSide}
use Rattle.guppy_features.specs.Dependencies.{DependencyData}
use Rattle.guppy_features.specs.Questions.{Question, splits, is_macro, is_build, may_be}
use Rattle.guppy_builds.specs.declared.build.BuildPlace.{BuildPlace}
use Rattle.guppy_builds.specs.declared.build.BuildPlace.TheVariants.{Target, Host}
use Rattle.guppy_builds.specs.Builds.{side_of}

-- how many they are: where they are no list, what stands in its place is one
abbrev pub count_of : PlatformSpec PlatformData → ℕ
count_of (SpecPlatforms platforms) = length platforms.items
count_of SpecAlways = 1
count_of SpecAny = 1

abbrev pub platform_count : Question → ℕ
platform_count q = count_of q.options.target_platform.now

-- the one of this place, by itself
abbrev pub platform_at : PlatformSpec PlatformData → ℕ → Platforms PlatformData
platform_at (SpecPlatforms platforms) i = OnPlatforms (option_to_list (slice_get platforms.items i))
platform_at SpecAlways i = OnAlways
platform_at SpecAny i = OnAny

-- what is built there is for this
abbrev pub platform_of : Question → BuildPlace → Platforms PlatformData
platform_of q (Target i) = platform_at q.options.target_platform.now i
platform_of q Host = platforms_of q.options.host_platform.now

-- whether what has the status may be on for it
abbrev pub may_be_on : Status → Platforms PlatformData → Bool
may_be_on status platforms = may_be (status_value answer_of status platforms)

-- whether the dependency is on for what is built there: what is needed to build, if it is for the platform that builds
abbrev pub is_on_at : Question → BuildPlace → DependencyData → Bool
is_on_at q at d =
    may_be_on (recorded_status d.part.build_if) (platform_of q (if is_build d.section then Host else at))

-- where the dependency's package is built, for one that is built there: what is needed to build, and procedural macros,
-- on the host
abbrev pub place_of : Question → BuildPlace → DependencyData → BuildPlace
place_of q at d = if is_build d.section || is_macro q d.to then Host else at

-- the side whose features what is built there has
abbrev pub features_side : Question → BuildPlace → BuildPlatform
features_side q at = if splits q then side_of at else TargetSide
