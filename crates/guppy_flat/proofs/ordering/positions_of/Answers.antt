use Rattle.std.specs.List.{concat}
use Rattle.std.proofs.lemmas.Iterator.Consumers.{map_from_collect, YieldsList-from_first}
use Rattle.guppy_core.specs.Sccs.{NodesLeft}
use Rattle.guppy_flat.proofs.ordering.positions_of.Goals as goal

pub returns : goal.returns
returns g c = map_from_collect _ c.collect.ensures.ran (YieldsList-from_first g.Ix.IndexType.index_of (λ (s : NodesLeft). s.left) (concat c.args.sccs.now) c.node_iter.ensures.left)
