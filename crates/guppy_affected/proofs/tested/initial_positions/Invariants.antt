use Rattle.std.proofs.Common.{◌≡◌, length}
use Rattle.guppy.specs.Listed.{listed_left}
use Rattle.guppy_affected.proofs.Tests.{AreToCome}
use Rattle.guppy_affected.proofs.tested.initial_positions.Given as goal

abbrev pub invariant-loop-package : goal.invariant-loop-package
invariant-loop-package l = record {
  to_come : AreToCome l.query.graph l.query.initials (listed_left l.package-iterator) l.positions;
  count : length l.positions ≡ length l.query.graph.packages;
}
