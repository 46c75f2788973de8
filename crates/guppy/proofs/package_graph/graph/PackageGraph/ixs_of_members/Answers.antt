use Rattle.std.proofs.Common.{◌∙◌, sym, ap, subst, map, take, [], ◌∷◌, ◌++◌}
use Rattle.std.proofs.lemmas.List.{map_push, take_more, take_all}
use Rattle.guppy_graph.specs.Ids.{ix_position}
use Rattle.guppy_graph.specs.Members.{AreMembersByPath}
use Rattle.guppy_graph.proofs.Membership.{members_below}
use Rattle.guppy.proofs.package_graph.graph.PackageGraph.ixs_of_members.Goals as goal

pub loop-position-init : goal.loop-position-init
loop-position-init c = ap (map ix_position) c.new-ixs.ensures.items

pub ix_at-requires : goal.ix_at-requires
ix_at-requires c =
    let items = c.members_by_path-position-items.result.now in
    members_below c.args.self.now.packages items c.members_by_path-position-items.ensures.permutation c.loop-position.position-index 0 c.loop-position-test.true

pub loop-position-preserved : goal.loop-position-preserved
loop-position-preserved c =
    let items = c.members_by_path-position-items.result.now in
    rw (c.in_ok-push.ensures.items, map_push) (ap (λ l. l ++ ix_position c.ix_at.result ∷ []) c.loop-position.invariant ∙ (ap (λ p. take c.loop-position.position-index items ++ p ∷ []) c.ix_at.ensures ∙ sym (take_more items c.loop-position.position-index 0 c.loop-position-test.true)))

pub returns : goal.returns
returns c =
    let items = c.members_by_path-position-items.result.now in
    let all = c.loop-position.invariant ∙ take_all c.loop-position.position-index items c.loop-position-test.false in
    subst (AreMembersByPath c.args.self.now.packages) (sym all) c.members_by_path-position-items.ensures
