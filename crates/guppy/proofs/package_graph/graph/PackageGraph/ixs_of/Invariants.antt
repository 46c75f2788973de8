use Rattle.std.proofs.Common.{map}
use Rattle.std.specs.List.{AllZip}
use Rattle.guppy_graph.specs.Ids.{ix_position}
use Rattle.guppy.proofs.package_graph.graph.PackageGraph.ixs_of.Given as goal

abbrev pub invariant-loop-name : goal.invariant-loop-name
invariant-loop-name g l = AllZip (g.N.NamesPackage.at l.self.packages) (map g.N.NamesPackage.text l.yielded) (map ix_position l.ixs.items)
