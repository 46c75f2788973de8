use Rattle.std.proofs.Common.{List, length}
use Rattle.std.specs.List.{AllZip}
use Rattle.json.specs.Json.{Json}
use Rattle.guppy_metadata.specs.declared.types.Package.{Package}
use Rattle.guppy_metadata.specs.Package.{IsParsedPackage}
use Rattle.guppy_metadata.specs.Told.{AreShown}
use Rattle.guppy_metadata.proofs.Turns.{ItemsRead}
use Rattle.guppy_metadata.proofs.told.read_packages.Given as goal

abbrev pub invariant-loop-alloc : goal.invariant-loop-alloc
invariant-loop-alloc g l = (js : List Json) × (whole : List Package) × ItemsRead 126 l.initial.reader js l.reader
    × AllZip (IsParsedPackage l.details) js whole × AreShown g.P.PackageSink.took l.shown.sink whole l.shown.packages.items

abbrev pub decreases-loop-alloc : goal.decreases-loop-alloc
decreases-loop-alloc g l = length l.reader
