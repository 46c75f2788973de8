use Rattle.std.proofs.Common.{◌<◌, length, sym, subst}
use Rattle.std.proofs.lemmas.List.Elements.{All-push}
use Rattle.guppy_graph.specs.Ids.{HasId, IsKnown}
use Rattle.guppy_graph.proofs.Lists.{AllZip-more}
use Rattle.guppy_graph.proofs.PackageIds.{within_of}
use Rattle.guppy_built.proofs.members.positions_of.Goals as goal

pub position_of-requires : goal.position_of-requires
position_of-requires c =
    subst (IsKnown c.args.graph.now.packages) (sym c.id-item.is) (c.requires c.loop-id.id-index c.id-item.result c.loop-id-test.true)

pub loop-id-preserved : goal.loop-id-preserved
loop-id-preserved c =
    let packages = c.args.graph.now.packages in
    let id = c.id-item.result in
    let p = c.position_of.result in
    rw c.in_ok-push.ensures.items (record {
      named = AllZip-more (HasId packages) c.args.ids.now c.loop-id.positions.items c.loop-id.id-index id p c.loop-id-test.true (sym c.id-item.is) c.loop-id.invariant.named c.position_of.ensures;
      within = All-push (λ q. q < length packages) c.loop-id.positions.items p c.loop-id.invariant.within (within_of packages id p c.position_of.ensures);
    })
