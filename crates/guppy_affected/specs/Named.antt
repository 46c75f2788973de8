-- Packages of which it is told by their IDs.
use Rattle.std.specs.Prelude.{ℕ, List, Contains}
use Rattle.guppy_data.specs.declared.records.PackageRecord.{PackageRecord}
use Rattle.guppy_graph.specs.Ids.{HasId}

-- the package at the position has one of the IDs
abbrev pub HasOneOf : List PackageRecord → List (List ℕ) → ℕ → Type 0
HasOneOf packages ids p = (id : List ℕ) × Contains ids id × HasId packages id p
