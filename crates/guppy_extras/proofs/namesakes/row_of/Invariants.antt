use Rattle.std.proofs.Common.{◌≡◌, ◌++◌, map}
use Rattle.guppy.specs.DirectLinks.{links_left}
use Rattle.guppy.specs.Views.{graph_of, package_position}
use Rattle.guppy_extras.specs.Duplicates.{row_of}
use Rattle.guppy_extras.proofs.LinkRows.{ids_left}
use Rattle.guppy_extras.proofs.namesakes.row_of.Given as goal

abbrev pub invariant-links : goal.invariant-links
invariant-links l = map (λ id. id.now) l.row.items ++ ids_left (links_left l.link-iterator) ≡ row_of (graph_of l.«package»).now (package_position l.«package»)
