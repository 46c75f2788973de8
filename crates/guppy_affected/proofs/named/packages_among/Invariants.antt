use Rattle.guppy_graph.specs.Graph.{GraphData}
use Rattle.guppy.specs.Iterators.{packages_left}
use Rattle.guppy_affected.specs.Named.{HasOneOf}
use Rattle.guppy_affected.proofs.IdSets.{told}
use Rattle.guppy_affected.proofs.Owners.{IsPicking}
use Rattle.guppy_affected.proofs.named.packages_among.Given as goal

abbrev pub invariant-loop-package : goal.invariant-loop-package
invariant-loop-package l = IsPicking l.graph (λ (g : GraphData). HasOneOf g.packages (told l.ids)) (packages_left l.package-iterator) l.all
