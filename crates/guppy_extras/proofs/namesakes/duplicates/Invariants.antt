use Rattle.std.proofs.Common.{map}
use Rattle.guppy_extras.proofs.DuplicateRows.{AreRows}
use Rattle.guppy_extras.proofs.namesakes.duplicates.Given as goal

abbrev pub invariant-loop-place : goal.invariant-loop-place
invariant-loop-place l = AreRows l.graph l.package-items l.place (map (λ row. map (λ id. id.now) row.items) l.rows.items)
