use Rattle.std.proofs.Common.{map}
use Rattle.guppy_graph.specs.Ids.{ix_position}
use Rattle.guppy.specs.PackageNames.{HasPackageName}
use Rattle.guppy.proofs.CollectedPositions.{AreBelow}
use Rattle.guppy.proofs.package_graph.graph.PackageGraph.ixs_with_name.Given as goal

abbrev pub invariant-loop-position : goal.invariant-loop-position
invariant-loop-position l = AreBelow (HasPackageName l.self.packages l.name) (map ix_position l.found.items) l.position
