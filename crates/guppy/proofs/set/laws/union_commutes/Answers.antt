use Rattle.std.proofs.Common.{inl, inr}
use Rattle.guppy.proofs.EqualLists.{same_members}
use Rattle.guppy.proofs.set.laws.union_commutes.Goals as goal

pub returns : goal.returns
returns c = λ a b x y one other count. same_members x y count (λ p. (
  λ h. (other p).1 (elim ((one p).0 h) [ inl i ↦ inr i | inr i ↦ inl i ]),
  λ h. (one p).1 (elim ((other p).0 h) [ inl i ↦ inr i | inr i ↦ inl i ]),
))
