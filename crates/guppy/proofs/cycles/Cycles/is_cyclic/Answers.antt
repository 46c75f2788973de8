use Rattle.guppy_graph.specs.Ids.{ix_position}
use Rattle.guppy_graph.specs.Accepted.{distinct_ids}
use Rattle.guppy_graph.proofs.OnCycles.{cyclic_by_positions}
use Rattle.guppy.proofs.cycles.Cycles.is_cyclic.Goals as goal

pub returns-clause-answer : goal.returns-clause-answer
returns-clause-answer c =
    cyclic_by_positions c.args.self.graph.now (c.in_ok-from.ensures.graph.accepted distinct_ids) c.args.a.now c.args.b.now (ix_position c.in_ok-from.from) (ix_position c.in_ok-from.to) c.in_ok-from.ensures.first c.in_ok-from.ensures.second c.have_cycle.result c.have_cycle.ensures
