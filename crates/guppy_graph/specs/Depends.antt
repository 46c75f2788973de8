-- Dependence between packages.
use Rattle.std.specs.Prelude.{ℕ, List}
use Rattle.guppy_search.specs.declared.ix.direction.DependencyDirection.TheVariants.{Forward}
use Rattle.guppy_search.specs.Reach.{LinkStep, Walk}
use Rattle.guppy_graph.specs.Ids.{HasId}
use Rattle.guppy_graph.specs.Graph.{GraphData}

-- a path of links leads from the package of the first ID to that of the second
abbrev pub DependsOn : GraphData → List ℕ → List ℕ → Type 0
DependsOn g a b =
    (p q : ℕ) × HasId g.packages a p × HasId g.packages b q × Walk (LinkStep Forward g.links) p q

-- a link leads from the package of the first ID to that of the second
abbrev pub DirectlyDependsOn : GraphData → List ℕ → List ℕ → Type 0
DirectlyDependsOn g a b =
    (p q : ℕ) × HasId g.packages a p × HasId g.packages b q × LinkStep Forward g.links p q
