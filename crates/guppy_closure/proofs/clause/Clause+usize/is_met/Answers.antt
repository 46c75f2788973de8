use Rattle.std.proofs.Common.{inl, inr}
use Rattle.guppy_closure.proofs.clause.Clause+usize.is_met.Goals as goal

pub is_there-requires : goal.is_there-requires
is_there-requires c = λ f e. c.requires.body f (inl e)

pub is_there-requires-then-is_there : goal.is_there-requires-then-is_there
is_there-requires-then-is_there c = λ f e. c.requires.body f (inr e)
