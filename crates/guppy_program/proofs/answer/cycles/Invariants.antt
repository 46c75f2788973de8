use Rattle.std.proofs.Common.{◌≡◌, map}
use Rattle.guppy.specs.ListedCycles.{cycle_left}
use Rattle.guppy_program.proofs.answer.cycles.Given as goal

abbrev pub invariant-loop-cycle : goal.invariant-loop-cycle
invariant-loop-cycle l = map (λ row. map (λ id. id.now) row.items) l.rows.items ≡ map cycle_left l.yielded
