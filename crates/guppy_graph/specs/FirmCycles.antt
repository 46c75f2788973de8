-- Cycles of packages over links that aren't dev-only.
use Rattle.std.specs.Prelude.{ℕ, List}
use Rattle.std.specs.List.{AllZip}
use Rattle.guppy_core.specs.Cycle.{IsCycle}
use Rattle.guppy_graph.specs.Ids.{HasId}
use Rattle.guppy_graph.specs.Graph.{GraphData}
use Rattle.guppy_graph.specs.Ordered.{FirmStep}

-- the IDs are those of packages whose positions are a cycle over the links that aren't dev-only
pub record IsFirmCycle (g : GraphData) (ids : List (List ℕ)) : Type 0 where
  pub positions : List ℕ
  pub named : AllZip (HasId g.packages) ids positions
  pub cycle : IsCycle (FirmStep g.links) positions

-- no list of IDs is one
abbrev pub HasNoFirmCycle : GraphData → Type 0
HasNoFirmCycle g = (ids : List (List ℕ)) → ¬ IsFirmCycle g ids
