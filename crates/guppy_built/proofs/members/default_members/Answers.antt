use Rattle.std.proofs.Common.{rules, IfOk}
use Rattle.std.proofs.lemmas.Result.{IfOk-weaker}
use Rattle.guppy_graph.proofs.Membership.{members_below}
use Rattle.guppy_graph.specs.Members.{AreMembersByPath}
use Rattle.guppy_built.proofs.members.default_members.Goals as goal

pub returns-then-is_empty-clause-within : goal.returns-then-is_empty-clause-within
returns-then-is_empty-clause-within c =
    let packages = c.args.graph.now.packages in
    let by_path : IfOk c.to_vec.result (λ positions. AreMembersByPath packages positions.items) = search rules in
    IfOk-weaker c.to_vec.result _ _ (λ positions are. members_below packages positions.items are.permutation) by_path

pub positions_of-requires : goal.positions_of-requires
positions_of-requires c =
    rw (c.as_slice-ids.ensures.value, c.workspace_record.ensures.record) c.workspace_record.ensures.known
