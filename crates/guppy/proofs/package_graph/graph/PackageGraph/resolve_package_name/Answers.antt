use Rattle.guppy.proofs.PackageNames.{named_below}
use Rattle.guppy.proofs.package_graph.graph.PackageGraph.resolve_package_name.Goals as goal

pub set_of-requires : goal.set_of-requires
set_of-requires c = named_below c.args.self.now.packages c.args.name.now _ c.in_ok-ixs.ensures

pub returns-clause-members : goal.returns-clause-members
returns-clause-members c = record {
  count_is = c.in_ok-set.ensures.count;
  members = λ p. (λ h. (c.in_ok-ixs.ensures p).0 ((c.in_ok-set.ensures.members p).0 h), λ has. (c.in_ok-set.ensures.members p).1 ((c.in_ok-ixs.ensures p).1 has));
}
