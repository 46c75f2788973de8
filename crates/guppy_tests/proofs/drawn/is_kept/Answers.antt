use Rattle.guppy_tests.proofs.drawn.is_kept.Goals as goal

pub next-requires : goal.next-requires
next-requires c = tt
