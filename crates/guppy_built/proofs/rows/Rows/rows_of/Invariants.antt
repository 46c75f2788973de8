use Rattle.std.proofs.Common.{ℕ, List, map, take}
use Rattle.std.specs.List.{AllZip, filter}
use Rattle.guppy_builds.specs.Building.{builds}
use Rattle.guppy_built.specs.Rows.{IsRow, has_row, row_of}
use Rattle.guppy_built.proofs.rows.Rows.rows_of.Given as goal

abbrev pub invariant-loop-build : goal.invariant-loop-build
invariant-loop-build l = (members : List ℕ) → AllZip (IsRow (builds l.self.set.now members)) (filter (has_row l.self.graph.now) (take l.build-index l.built)) (map row_of l.rows.items)
