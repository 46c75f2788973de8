-- A graph whose looks are counted.
use Rattle.std.specs.Prelude.{ℕ}
use Rattle.guppy_search.specs.Graph.{GraphValue}

-- a graph, and how many of its links were handed out
pub record CountedValue (N E : Type 0) : Type 0 where
  pub graph : GraphValue N E
  pub looks : ℕ
