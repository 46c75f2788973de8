use Rattle.std.proofs.Common.{◌≡◌, ◌+◌, ◌≤◌, length}
use Rattle.guppy_search.specs.declared.ix.direction.DependencyDirection.TheVariants.{Forward}
use Rattle.guppy_core.proofs.Costs.{degree}
use Rattle.guppy_core.proofs.Frames.{left}
use Rattle.guppy_core.proofs.DepthFirstSteps.{Finishing}
use Rattle.guppy_core.proofs.topo.finish.finish_order.Given as goal

abbrev pub invariant-loop-frame : goal.invariant-loop-frame
invariant-loop-frame g l = record {
  search : Finishing Forward g.kept l.fn.graph.graph l.starts (l.start-index + 1) (l.fn.graph.looks + length l.fn.graph.graph.links) l.graph.looks l.seen l.frames.items l.order.items;
  graph : l.graph.graph ≡ l.fn.graph.graph;
  counted : l.fn.graph.looks ≤ l.graph.looks;
}

abbrev pub invariant-loop-start : goal.invariant-loop-start
invariant-loop-start g l = record {
  search : Finishing Forward g.kept l.fn.graph.graph l.starts l.start-index (l.fn.graph.looks + length l.fn.graph.graph.links) l.graph.looks l.seen l.frames.items l.order.items;
  empty : length l.frames.items ≡ 0;
  graph : l.graph.graph ≡ l.fn.graph.graph;
  counted : l.fn.graph.looks ≤ l.graph.looks;
}

abbrev pub decreases-loop-frame : goal.decreases-loop-frame
decreases-loop-frame g l = left 1 (degree {E = g.row.G-Edge.Denot} Forward l.fn.graph.graph.links) l.seen l.frames.items
