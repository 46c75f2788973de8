use Rattle.std.proofs.Common.{◌≡◌, ◌≤◌, length}
use Rattle.guppy_target.specs.Reading.{after_spaces}
use Rattle.guppy_target.proofs.text.after_spaces.Given as goal

abbrev pub invariant-loop-rest : goal.invariant-loop-rest
invariant-loop-rest l = (after_spaces l.initial.rest ≡ after_spaces l.rest) × (length l.rest ≤ length l.initial.rest)

abbrev pub decreases-loop-rest : goal.decreases-loop-rest
decreases-loop-rest l = length l.rest
