-- What holds of each item that an iterator over a slice has still to give.
use Rattle.std.proofs.Common.{All, subst, sym}
use Rattle.std.specs.Prelude.{Option, Some, None}
use Rattle.std.specs.Borrow.{Bor}
use Rattle.std.specs.Slice.Iter.{iter_rest, iter_steps}
use Rattle.std.specs.declared.slice.Iter.{Iter}
use Rattle.std.proofs.lemmas.List.Elements.{All-tail}

-- it holds of each that is left after a step
pub remaining : {A : Type 0} (P : A → Type 0) (old new : Iter A) (given : Option (Bor A)) → iter_steps old given new → All P (iter_rest old) → All P (iter_rest new)
remaining P old new None step all = subst (λ it. All P (iter_rest it)) (sym step.1) all
remaining P old new (Some x) step all = All-tail P x.now (iter_rest new) (subst (All P) step all)
