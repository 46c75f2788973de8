use Rattle.std.proofs.Common.{All, take}
use Rattle.guppy_graph.specs.Verified.{IsLinkVerified}
use Rattle.guppy_graph.proofs.graph.RecordGraph.fault_of_links.Given as goal

abbrev pub invariant-loop-number : goal.invariant-loop-number
invariant-loop-number l = All (IsLinkVerified l.self) (take l.number-index l.number-items)
