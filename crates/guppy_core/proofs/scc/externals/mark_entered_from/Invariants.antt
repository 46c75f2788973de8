use Rattle.guppy_core.proofs.RowSets.{Gathered}
use Rattle.guppy_core.proofs.Roots.{EntersFromAt}
use Rattle.guppy_core.proofs.scc.externals.mark_entered_from.Given as goal

abbrev pub invariant-loop-number : goal.invariant-loop-number
invariant-loop-number g l = Gathered (EntersFromAt l.direction l.graph.links l.numbers l.set l.position) l.fn.entered.items l.number-index l.entered.items
