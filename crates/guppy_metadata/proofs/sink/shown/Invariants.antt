use Rattle.std.specs.List.{AllZip}
use Rattle.guppy_metadata.specs.Sink.{IsShort}
use Rattle.guppy_metadata.proofs.sink.shown.Given as goal

abbrev pub invariant-loop-package : goal.invariant-loop-package
invariant-loop-package g l = g.P.PackageSink.took l.sink l.yielded l.left.items × AllZip IsShort l.yielded l.left.items
