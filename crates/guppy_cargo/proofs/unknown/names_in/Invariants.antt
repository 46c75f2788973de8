use Rattle.std.proofs.Common.{◌≡◌, map}
use Rattle.guppy.specs.Views.{package_seen}
use Rattle.guppy_cargo.proofs.PackageNames.{name_seen}
use Rattle.guppy_cargo.proofs.unknown.names_in.Given as goal

abbrev pub invariant-loop-package : goal.invariant-loop-package
invariant-loop-package l = map (λ name. name.now) l.names.items ≡ map name_seen (map package_seen l.yielded)
