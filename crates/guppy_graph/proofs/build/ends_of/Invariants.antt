use Rattle.std.proofs.Common.{take}
use Rattle.guppy_graph.specs.Links.{AreEndsOf}
use Rattle.guppy_graph.proofs.build.ends_of.Given as goal

abbrev pub invariant-loop-number : goal.invariant-loop-number
invariant-loop-number l = AreEndsOf l.ids.packages.now (take l.number l.records) l.ends.items
