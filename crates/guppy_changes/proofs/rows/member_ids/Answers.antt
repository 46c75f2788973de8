use Rattle.std.proofs.Common.{◌≡◌, get_or, sym, rules}
use Rattle.std.proofs.lemmas.List.Elements.{All-push}
use Rattle.std.proofs.lemmas.Option.{get_or_from_slice_get, slice_get-get_or}
use Rattle.guppy_graph.specs.Ids.{HasId, IsKnown}
use Rattle.guppy_graph.proofs.Lists.{AllZip-more}
use Rattle.guppy_graph.proofs.Membership.{members_below}
use Rattle.guppy_changes.proofs.rows.member_ids.Goals as goal

pub package_at-requires : goal.package_at-requires
package_at-requires c =
    members_below c.args.graph.now.packages c.members_by_path-position-items.result.now c.members_by_path-position-items.ensures.permutation c.loop-position.position-index 0 c.loop-position-test.true

pub loop-position-preserved : goal.loop-position-preserved
loop-position-preserved c =
    let packages = c.args.graph.now.packages in
    let items = c.members_by_path-position-items.result.now in
    let i = c.loop-position.position-index in
    let p = get_or items i 0 in
    let id = c.in_ok-clone.field-0 in
    let same : id ≡ c.package_at.result.now.id = search (rules, c.in_ok-clone.ensures.cases) in
    let has : HasId packages id p = rw c.package_at.ensures (sym same) in
    let at = get_or_from_slice_get items i p p (slice_get-get_or items i 0 c.loop-position-test.true) in
    rw c.in_ok-push.ensures.items (record {
      named = AllZip-more (λ p id. HasId packages id p) items c.loop-position.ids.items i p id c.loop-position-test.true at c.loop-position.invariant.named has;
      known = All-push (IsKnown packages) c.loop-position.ids.items id c.loop-position.invariant.known (p, has);
    })
