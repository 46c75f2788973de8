-- What may be built of a package.
use Rattle.std.specs.Prelude.{ℕ}
use Rattle.guppy_features.specs.declared.fact.BuildPlatform.{BuildPlatform}
use Rattle.guppy_features.specs.declared.fact.BuildPlatform.TheVariants.{Target as TargetSide, Host as HostSide}
use Rattle.guppy_builds.specs.declared.build.BuildPlace.{BuildPlace}
use Rattle.guppy_builds.specs.declared.build.BuildPlace.TheVariants.{Target, Host}
use Rattle.guppy_builds.specs.declared.build.BuildMode.TheVariants.{Build as InBuild, Test as InTest}
use Rattle.guppy_builds.specs.declared.build.Build.{Build}

-- the side that the place is
abbrev pub side_of : BuildPlace → BuildPlatform
side_of (Target i) = TargetSide
side_of Host = HostSide

-- a target of the package is built there
abbrev pub built : ℕ → BuildPlace → Build
built p at = record { position = p; place = at; mode = InBuild }

-- one is built there with the package's dev-dependencies
abbrev pub tested : ℕ → BuildPlace → Build
tested p at = record { position = p; place = at; mode = InTest }
