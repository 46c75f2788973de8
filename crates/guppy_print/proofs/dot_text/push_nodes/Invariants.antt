use Rattle.std.proofs.Common.{◌≡◌, ◌++◌, List, map, take, string_bytes}
use Rattle.std.specs.List.{flat_map}
use Rattle.guppy_data.specs.declared.records.PackageRecord.{PackageRecord}
use Rattle.guppy_dot.specs.Dot.{node_shown}
use Rattle.guppy_dot.specs.DotText.{called_node}
use Rattle.guppy_print.specs.Printed.{called}
use Rattle.guppy_print.proofs.dot_text.push_nodes.Given as goal

abbrev pub invariant-loop-node : goal.invariant-loop-node
invariant-loop-node g l = (packages : List PackageRecord) → g.F.Format.are_names l.names packages
    → string_bytes l.text ≡ string_bytes l.initial.text ++ flat_map (called_node (called l.options (g.F.Format.format.text packages))) (map node_shown (take l.node-index l.nodes))
