use Rattle.std.proofs.Common.{inl, inr}
use Rattle.guppy_search.proofs.dfs.laws.resolve_of_union_is_union.Goals as goal

pub returns : goal.returns
returns g c = λ d links first second both from_first from_second from_both union one other all p. (
  λ h.
      let walk = (all p).0 h in
      elim ((union walk.0).0 walk.1) [
        | inl i ↦ inl ((one p).1 (walk.0, i, walk.2))
        | inr i ↦ inr ((other p).1 (walk.0, i, walk.2))
      ],
  λ h. elim h [
    | inl i ↦ let walk = (one p).0 i in (all p).1 (walk.0, (union walk.0).1 (inl walk.1), walk.2)
    | inr i ↦ let walk = (other p).0 i in (all p).1 (walk.0, (union walk.0).1 (inr walk.1), walk.2)
  ],
)
