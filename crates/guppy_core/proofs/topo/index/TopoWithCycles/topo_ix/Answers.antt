use Rattle.std.proofs.Common.{◌≡◌, ◌<◌, length, subst, get_or}
use Rattle.guppy_core.proofs.Ranks.{index_at}
use Rattle.guppy_core.proofs.topo.index.TopoWithCycles.topo_ix.Goals as goal

pub returns : goal.returns
returns g c =
    let p = g.Ix.IndexType.index_of c.args.position in
    let h : p < length c.self.inside.order.items = rw c.self.view_is c.requires in
    let is : c.index-2.result.now ≡ get_or c.self.inside.index.items p c.index-2.result.now = subst (λ q. c.index-2.result.now ≡ get_or c.self.inside.index.items q c.index-2.result.now) c.index.ensures.position c.index-2.ensures in
    rw (← c.self.view_is) (index_at c.self.inside.order.items c.self.inside.index.items c.self.invariant.0 c.self.invariant.1 p h c.index-2.result.now is)
