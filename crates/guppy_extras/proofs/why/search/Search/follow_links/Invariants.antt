use Rattle.std.proofs.Common.{◌≡◌, ℕ, List}
use Rattle.guppy.specs.DirectLinks.{links_left}
use Rattle.guppy.specs.Views.{graph_of}
use Rattle.guppy_extras.specs.Nodes.{AreKept}
use Rattle.guppy_extras.specs.Searches.{nodes_of, IsFollowing}
use Rattle.guppy_extras.proofs.LeavingLinks.{numbered}
use Rattle.guppy_extras.proofs.why.search.Search.follow_links.Given as goal

abbrev pub invariant-links : goal.invariant-links
invariant-links l = record {
  left : List ℕ;
  left_is : links_left l.link-iterator ≡ numbered (graph_of l.fn.self.start) left;
  start : l.self.start ≡ l.fn.self.start;
  kept : AreKept (nodes_of l.fn.self) (nodes_of l.self);
  following : IsFollowing l.self l.place left;
}
