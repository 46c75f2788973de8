use Rattle.guppy_tests.proofs.drawn.is_kept.Given as goal

abbrev pub invariant-loop-position : goal.invariant-loop-position
invariant-loop-position l =
    (goal.iterator-loop-position).can_next l.rest × (goal.iterator-loop-position).is_finite l.rest
