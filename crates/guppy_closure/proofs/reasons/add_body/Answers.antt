use Rattle.std.proofs.Common.{inl, inr, arith}
use Rattle.guppy_closure.proofs.reasons.add_body.Goals as goal

pub add-requires : goal.add-requires
add-requires c = λ f e. c.requires f (inl e)

pub add-requires-2 : goal.add-requires-2
add-requires-2 c = λ f e. let at = c.requires f (inr e) in let size = c.add.ensures.count in (omega arith, at.1)
