use Rattle.std.proofs.Common.{false, replicate}
use Rattle.guppy_search.specs.Reach.{LinkStep}
use Rattle.guppy_core.specs.Roots.{HasNumber}
use Rattle.guppy_core.proofs.RowSets.{Gathered}
use Rattle.guppy_core.proofs.Roots.{EntersInside}
use Rattle.guppy_core.proofs.scc.externals.entered.Given as goal

abbrev pub invariant-loop-position : goal.invariant-loop-position
invariant-loop-position g l = Gathered (EntersInside (LinkStep {E = g.row.G-Edge.Denot} l.direction l.graph.links) (HasNumber l.numbers) l.set) (replicate l.count false) l.position l.entered.items
