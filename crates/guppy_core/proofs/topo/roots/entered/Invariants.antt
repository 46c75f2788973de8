use Rattle.std.proofs.Common.{◌≡◌, ◌+◌, false, length, replicate}
use Rattle.guppy_core.proofs.Entrances.{EntersAt}
use Rattle.guppy_core.proofs.RowSets.{Gathered}
use Rattle.guppy_core.proofs.Notes.{AreNotedTo}
use Rattle.guppy_core.proofs.topo.roots.entered.Given as goal

abbrev pub invariant-loop-number : goal.invariant-loop-number
invariant-loop-number g l = record {
  entered : Gathered (EntersAt g.kept l.fn.graph.graph.links) (replicate (length l.fn.graph.graph.nodes) false) l.number l.set;
  noted : AreNotedTo g.kept l.fn.graph.graph.links l.number l.notes;
  graph : l.graph.graph ≡ l.fn.graph.graph;
  looked : l.graph.looks ≡ l.fn.graph.looks + l.number;
}
