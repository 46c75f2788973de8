use Rattle.guppy_graph.specs.Graph.{GraphData}
use Rattle.guppy.specs.Iterators.{packages_left}
use Rattle.guppy_folders.specs.Folders.{lists_in}
use Rattle.guppy_affected.specs.Changed.{IsChangedBy}
use Rattle.guppy_affected.specs.Folders.{given_in}
use Rattle.guppy_affected.proofs.Owners.{IsPicking}
use Rattle.guppy_affected.proofs.touched.packages_changed.Given as goal

abbrev pub invariant-loop-package : goal.invariant-loop-package
invariant-loop-package l =
    IsPicking l.graph (λ (g : GraphData). IsChangedBy g (given_in l.also) (lists_in l.folders) (lists_in l.paths) (lists_in l.places)) (packages_left l.package-iterator) l.all
