use Rattle.std.proofs.Common.{◌∙◌}
use Rattle.guppy_core.proofs.Ranks.{rank_found, rank_missing}
use Rattle.guppy_core.proofs.topo.index.TopoWithCycles.rank.Goals as goal

pub returns-in-Some : goal.returns-in-Some
returns-in-Some g c =
    let p = g.Ix.IndexType.index_of c.args.position in
    let order = c.self.inside.order.items in
    let index = c.self.inside.index.items in
    let look = rw (c.deref.ensures.value, c.index.ensures.position) at c.in-Some.ensures.lookup in
    rw (← c.self.view_is) (rank_found order index c.self.invariant.0 c.self.invariant.1 p look.3.0 c.in-Some.index.now look.1)

pub returns-in-None : goal.returns-in-None
returns-in-None g c =
    let p = g.Ix.IndexType.index_of c.args.position in
    let order = c.self.inside.order.items in
    let index = c.self.inside.index in
    let look = rw (c.deref.ensures.value, c.index.ensures.position) at c.in-None.ensures.lookup in
    rw (← c.self.view_is) (c.len.ensures ∙ (index.ok.0 ∙ rank_missing order index.items c.self.invariant.0 c.self.invariant.1 p look.3))
