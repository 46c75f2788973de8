use Rattle.std.proofs.Common.{map}
use Rattle.guppy_graph.specs.Ids.{ix_position}
use Rattle.guppy_graph.proofs.Membership.{members_below, members_are}
use Rattle.guppy.proofs.package_graph.graph.PackageGraph.resolve_workspace.Goals as goal

pub set_of-requires : goal.set_of-requires
set_of-requires c = members_below c.args.self.now.packages (map ix_position c.in_ok-ixs.ixs.items) c.in_ok-ixs.ensures.permutation

pub returns-clause-members : goal.returns-clause-members
returns-clause-members c =
    let set = c.in_ok-set.ensures in
    let are = members_are c.args.self.now.packages (map ix_position c.in_ok-ixs.ixs.items) c.in_ok-ixs.ensures.permutation in
    record {
      count_is = set.count;
      members = λ p. (λ h. (are p).0 ((set.members p).0 h), λ member. (set.members p).1 ((are p).1 member));
    }
