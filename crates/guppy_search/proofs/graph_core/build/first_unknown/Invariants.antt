use Rattle.std.proofs.Common.{take}
use Rattle.std.specs.Prelude.{All}
use Rattle.guppy_search.specs.Links.{EndsBelow}
use Rattle.guppy_search.proofs.graph_core.build.first_unknown.Given as goal

abbrev pub invariant-loop-number : goal.invariant-loop-number
invariant-loop-number g l = All (EndsBelow l.count) (take l.number l.links)
