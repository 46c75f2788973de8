use Rattle.std.proofs.Common.{◌≡◌, ◌+◌, ◌≤◌, length}
use Rattle.guppy_search.specs.declared.ix.direction.DependencyDirection.TheVariants.{Forward}
use Rattle.guppy_core.proofs.Costs.{degree}
use Rattle.guppy_core.proofs.Frames.{left}
use Rattle.guppy_core.proofs.PathSearch.{Tracing}
use Rattle.guppy_core.proofs.topo.cycle.find_cycle.Given as goal

abbrev pub invariant-loop-start : goal.invariant-loop-start
invariant-loop-start g l = record {
  search : Tracing g.kept l.fn.graph.graph l.start (l.fn.graph.looks + length l.fn.graph.graph.links) l.graph.looks l.seen l.done l.frames.items;
  empty : length l.frames.items ≡ 0;
  graph : l.graph.graph ≡ l.fn.graph.graph;
  counted : l.fn.graph.looks ≤ l.graph.looks;
}

abbrev pub invariant-loop-frame : goal.invariant-loop-frame
invariant-loop-frame g l = record {
  search : Tracing g.kept l.fn.graph.graph (l.start + 1) (l.fn.graph.looks + length l.fn.graph.graph.links) l.graph.looks l.seen l.done l.frames.items;
  graph : l.graph.graph ≡ l.fn.graph.graph;
  counted : l.fn.graph.looks ≤ l.graph.looks;
}

abbrev pub decreases-loop-frame : goal.decreases-loop-frame
decreases-loop-frame g l = left 1 (degree {E = g.row.G-Edge.Denot} Forward l.fn.graph.graph.links) l.seen l.frames.items
