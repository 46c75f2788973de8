-- The order of builds: by package, platform, and how.
use Rattle.std.specs.declared.cmp.Ordering.{Ordering}
use Rattle.guppy_builds.specs.declared.build.Build.{Build}
use Rattle.guppy_builds.specs.contracts.build.BuildOrd.TheImpl as build_ord

abbrev pub build_cmp : Build → Build → Ordering
build_cmp = (build_ord.ghosts).cmp
