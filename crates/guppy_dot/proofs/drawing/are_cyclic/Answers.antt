use Rattle.std.proofs.Common.{◌↔◌, subst, Bor}
use Rattle.std.specs.Prelude.{IsTrue}
use Rattle.guppy_graph.specs.Cycles.{AreCyclic}
use Rattle.guppy_graph.specs.Graph.{GraphData}
use Rattle.guppy_dot.proofs.drawing.are_cyclic.Goals as goal

pub returns : goal.returns
returns c = subst (λ (g : Bor GraphData). IsTrue c.in-Ok.cyclic ↔ AreCyclic g.now c.args.a.now c.args.b.now) c.cycles.ensures c.in-Ok.ensures.answer
