use Rattle.std.proofs.Common.{◌≡◌, ℕ, ◌+◌, ◌*◌, ◌≤◌, length}
use Rattle.guppy_target.specs.Reading.{operands_at, predicate_at, truths_of}
use Rattle.guppy_target.proofs.Operands.{truths_behind}
use Rattle.guppy_target.proofs.predicate.+predicate.Given as goal

abbrev pub decreases-predicate_at : goal.decreases-predicate_at
decreases-predicate_at l = 5 * l.levels

abbrev pub decreases-negated_at : goal.decreases-negated_at
decreases-negated_at l = 5 * l.levels + 1

abbrev pub decreases-operands_at : goal.decreases-operands_at
decreases-operands_at l = 5 * l.levels + 1

abbrev pub decreases-all_operands_at : goal.decreases-all_operands_at
decreases-all_operands_at l = 5 * l.levels + 2

abbrev pub decreases-all_at : goal.decreases-all_at
decreases-all_at l = 5 * l.levels + 3

abbrev pub decreases-any_at : goal.decreases-any_at
decreases-any_at l = 5 * l.levels + 3

abbrev pub decreases-predicate_from : goal.decreases-predicate_from
decreases-predicate_from l = 5 * l.levels + 4

-- so many turns are enough for the rest, and what they read, behind the operands so far, is what is read of all
abbrev pub invariant-operands_at-loop-rest : goal.invariant-operands_at-loop-rest
invariant-operands_at-loop-rest l =
    (n : ℕ) × (length l.text ≤ n)
    × (truths_of l.platform.settings (operands_at (predicate_at l.levels) (length l.initial.text) l.initial.text)
    ≡ truths_behind l.platform.settings l.every l.one (operands_at (predicate_at l.levels) n l.text))

abbrev pub decreases-operands_at-loop-rest : goal.decreases-operands_at-loop-rest
decreases-operands_at-loop-rest l = length l.text
