use Rattle.guppy_graph.proofs.Neighbours.{risen_index, risen_differ}
use Rattle.guppy_graph.proofs.keyed.indexed.Goals as goal

pub returns-then-rise-clause-index : goal.returns-then-rise-clause-index
returns-then-rise-clause-index g c =
    risen_index g.S.Keyed.order g.S.Keyed.total (g.S.Keyed.key_at c.args.source.now) (g.S.Keyed.count c.args.source.now) c.args.positions.items c.requires (rw c.as_slice.ensures.value at (c.rise.ensures c.if-rise.true))

pub returns-then-rise-clause-repeat : goal.returns-then-rise-clause-repeat
returns-then-rise-clause-repeat g c =
    risen_differ g.S.Keyed.order g.S.Keyed.total (g.S.Keyed.key_at c.args.source.now) (g.S.Keyed.count c.args.source.now) c.args.positions.items c.requires (rw c.as_slice.ensures.value at (c.rise.ensures c.if-rise.true))
