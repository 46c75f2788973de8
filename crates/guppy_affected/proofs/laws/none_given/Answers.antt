use Rattle.std.proofs.Common.{inl, inr, ⊎_elim}
use Rattle.guppy_affected.proofs.Targets.{changed_otherwise}
use Rattle.guppy_affected.proofs.laws.none_given.Goals as goal

pub returns : goal.returns
returns c g path p = (
  changed_otherwise g path p,
  ⊎_elim (λ belongs. inl belongs) (⊎_elim (λ below. inr (inl below)) (λ elsewhere. inr (inr (inl elsewhere)))),
)
