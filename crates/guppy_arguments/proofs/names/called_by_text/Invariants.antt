use Rattle.std.proofs.Common.{take}
use Rattle.guppy_arguments.specs.Names.{AreCalled}
use Rattle.guppy_arguments.proofs.names.called_by_text.Given as goal

abbrev pub invariant-loop-package : goal.invariant-loop-package
invariant-loop-package l = AreCalled (take l.package-index l.packages) l.ids_by_text
