use Rattle.std.proofs.Common.{map}
use Rattle.std.specs.List.{AllZip}
use Rattle.guppy.specs.Views.{link_data}
use Rattle.guppy_dot.specs.Dot.{IsEdge, edge_shown}
use Rattle.guppy_dot.proofs.drawing.edges_of.Given as goal

abbrev pub invariant-loop-link : goal.invariant-loop-link
invariant-loop-link l = AllZip IsEdge (map link_data l.yielded) (map edge_shown l.edges.items)
