use Rattle.std.proofs.Common.{◌≡◌, ◌++◌, List, map, take, string_bytes}
use Rattle.std.specs.List.{flat_map}
use Rattle.guppy_data.specs.declared.records.PackageRecord.{PackageRecord}
use Rattle.guppy_dot.specs.Dot.{edge_shown}
use Rattle.guppy_dot.specs.DotText.{called_edge}
use Rattle.guppy_print.specs.Printed.{called}
use Rattle.guppy_print.proofs.dot_text.push_edges.Given as goal

abbrev pub invariant-loop-edge : goal.invariant-loop-edge
invariant-loop-edge g l = (packages : List PackageRecord) → g.F.Format.are_names l.names packages
    → string_bytes l.text ≡ string_bytes l.initial.text ++ flat_map (called_edge (called l.options (g.F.Format.format.text packages))) (map edge_shown (take l.edge-index l.edges))
