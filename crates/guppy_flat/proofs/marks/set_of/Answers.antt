use Rattle.std.proofs.Common.{arith, false}
use Rattle.std.proofs.lemmas.List.{ext_get_or}
use Rattle.guppy_flat.proofs.marks.set_of.Goals as goal

pub returns : goal.returns
returns c =
    let size = c.loop-position.invariant.size in
    let ends = c.loop-position-test.false in
    ext_get_or false _ _ size (λ i h. c.loop-position.invariant.copied i (omega arith))
