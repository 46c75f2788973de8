use Rattle.std.proofs.Common.{map}
use Rattle.std.specs.List.{AllZip}
use Rattle.guppy.specs.Views.{package_data}
use Rattle.guppy_dot.specs.Dot.{IsNode, node_shown}
use Rattle.guppy_dot.proofs.drawing.nodes_of.Given as goal

abbrev pub invariant-loop-metadata : goal.invariant-loop-metadata
invariant-loop-metadata l = AllZip IsNode (map package_data l.yielded) (map node_shown l.nodes.items)
