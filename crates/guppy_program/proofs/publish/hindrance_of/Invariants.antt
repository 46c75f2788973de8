use Rattle.std.proofs.Common.{◌≡◌, ℕ, List}
use Rattle.std.specs.List.{find}
use Rattle.guppy.specs.DirectLinks.{links_left}
use Rattle.guppy.specs.Views.{graph_of, package_position}
use Rattle.guppy_extras.proofs.LeavingLinks.{numbered}
use Rattle.guppy_program.specs.Publish.{is_hindrance_at, hindrance_of}
use Rattle.guppy_program.proofs.publish.hindrance_of.Given as goal

abbrev pub invariant-links : goal.invariant-links
invariant-links l = record {
  left : List ℕ;
  left_is : links_left l.link-iterator ≡ numbered (graph_of l.metadata) left;
  same : hindrance_of (graph_of l.metadata).now (package_position l.metadata) ≡ find (is_hindrance_at (graph_of l.metadata).now) left;
}
