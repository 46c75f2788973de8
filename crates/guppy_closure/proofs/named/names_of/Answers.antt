use Rattle.std.proofs.Common.{◌∙◌, sym}
use Rattle.std.proofs.lemmas.List.Filters.{dedup_is}
use Rattle.std.proofs.lemmas.List.Sorted.{Contains-permutation}
use Rattle.std.proofs.lemmas.List.Kept.{Contains-dedup, IsStrictlySortedBy-dedup}
use Rattle.std.proofs.lemmas.Map.Views.{tells_apart}
use Rattle.guppy_closure.proofs.named.names_of.Goals as goal

pub returns-clause-order : goal.returns-clause-order
returns-clause-order g c =
    rw (dedup_is _ _ _ c.dedup.ensures.filtered) (IsStrictlySortedBy-dedup g.met.F.Ord.total g.met.F.Ord.matches_eq _ c.sort_unstable.ensures.sorted)

pub returns-clause-named : goal.returns-clause-named
returns-clause-named g c = λ f h.
    let is = dedup_is _ _ _ c.dedup.ensures.filtered in
    let listed = c.in_ok-names.ensures.named f h in
    rw is (Contains-dedup g.met.F.Eq.laws (λ x y e. tells_apart c.requires.exact x y (sym (g.met.F.Ord.matches_eq x y) ∙ e)) _ f (Contains-permutation _ _ f c.sort_unstable.ensures.permutation listed))
