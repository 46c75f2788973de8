use Rattle.std.proofs.Common.{take}
use Rattle.guppy_arguments.specs.Names.{AreIds}
use Rattle.guppy_arguments.proofs.names.ids_of.Given as goal

abbrev pub invariant-loop-package : goal.invariant-loop-package
invariant-loop-package l = AreIds (take l.package-index l.packages) l.ids
