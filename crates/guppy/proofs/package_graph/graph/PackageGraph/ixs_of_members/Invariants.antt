use Rattle.std.proofs.Common.{◌≡◌, map, take}
use Rattle.guppy_graph.specs.Ids.{ix_position}
use Rattle.guppy.proofs.package_graph.graph.PackageGraph.ixs_of_members.Given as goal

abbrev pub invariant-loop-position : goal.invariant-loop-position
invariant-loop-position l = map ix_position l.ixs.items ≡ take l.position-index l.position-items
