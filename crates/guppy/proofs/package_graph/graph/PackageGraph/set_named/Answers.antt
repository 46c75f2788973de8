use Rattle.std.proofs.Common.{map}
use Rattle.guppy_graph.specs.Ids.{ix_position}
use Rattle.guppy.proofs.NamedPositions.{zip_below, zip_named_set}
use Rattle.guppy.proofs.package_graph.graph.PackageGraph.set_named.Goals as goal

pub set_of-requires : goal.set_of-requires
set_of-requires g c =
    let packages = c.args.self.now.packages in
    let found = c.in_ok-ixs.ensures.found in
    zip_below (g.N.NamesPackage.at packages) packages (g.met.N.NamesPackage.within packages) (map g.N.NamesPackage.text found.0) (map ix_position c.in_ok-ixs.ixs.items) found.2

pub returns-clause-members : goal.returns-clause-members
returns-clause-members g c =
    let packages = c.args.self.now.packages in
    let found = c.in_ok-ixs.ensures.found in
    let set = c.in_ok-set.ensures in (
      found.0,
      found.1,
      zip_named_set (g.N.NamesPackage.at packages) packages (g.met.N.NamesPackage.within packages) (g.met.N.NamesPackage.distinct c.args.self.now set.is_graph) (map g.N.NamesPackage.text found.0) (map ix_position c.in_ok-ixs.ixs.items) found.2 c.in_ok-set.set.included set.count set.members,
    )
