use Rattle.guppy_graph.proofs.Neighbours.{IsScanned}
use Rattle.guppy_graph.proofs.keyed.first_repeat.Given as goal

abbrev pub invariant-loop-place : goal.invariant-loop-place
invariant-loop-place g l = IsScanned g.S.Keyed.order (g.S.Keyed.key_at l.source) (g.S.Keyed.count l.source) l.index l.place l.lowest
