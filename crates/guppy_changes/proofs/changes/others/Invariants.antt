use Rattle.std.proofs.Common.{map, take}
use Rattle.guppy_graph.specs.Ids.{ids_of}
use Rattle.guppy_changes.specs.Changes.{AreOthers}
use Rattle.guppy_changes.specs.Missing.{IsKept}
use Rattle.guppy_changes.proofs.changes.others.Given as goal

abbrev pub invariant-loop-package : goal.invariant-loop-package
invariant-loop-package l = AreOthers (IsKept l.before.packages (map (λ id. id.now) l.differing))
    (ids_of (take l.package-index l.package-items)) (map (λ id. id.now) l.ids.items)
