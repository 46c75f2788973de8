use Rattle.std.proofs.Common.{sym, subst, ◌<◌, length, All}
use Rattle.guppy_graph.proofs.Membership.{members_below}
use Rattle.guppy.proofs.workspace.Workspace.iter.Goals as goal

pub invariant_of-result : goal.invariant_of-result
invariant_of-result c =
    let packages = c.args.self.graph.now.packages in
    record {
      in_graph = subst (All (λ p. p < length packages)) (sym c.iter.ensures.rest) (members_below packages _ c.members_by_path.ensures.permutation);
    }
