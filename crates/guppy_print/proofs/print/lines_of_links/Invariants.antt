use Rattle.std.proofs.Common.{◌≡◌, List, map, take, string_bytes}
use Rattle.guppy_data.specs.declared.records.PackageRecord.{PackageRecord}
use Rattle.guppy_command.specs.Printed.{line_end, lines_of}
use Rattle.guppy_print.specs.Printed.{called, link_text}
use Rattle.guppy_print.specs.Shown.{link_shown}
use Rattle.guppy_print.proofs.print.lines_of_links.Given as goal

abbrev pub invariant-loop-link : goal.invariant-loop-link
invariant-loop-link g l = (packages : List PackageRecord) → g.F.Format.are_names l.names packages
    → string_bytes l.text ≡ lines_of (line_end l.options) (map (link_text (called l.options (g.F.Format.format.text packages))) (map link_shown (take l.link-index l.links)))
