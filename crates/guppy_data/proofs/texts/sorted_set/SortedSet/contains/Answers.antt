use Rattle.std.proofs.Common.{◌≡◌, ◌∙◌, true, IsTrue, ◌↔◌, subst}
use Rattle.std.specs.List.{Any}
use Rattle.std.specs.Result.{is_ok}
use Rattle.guppy_data.proofs.BinarySearch.{found_where_equal}
use Rattle.guppy_data.proofs.texts.sorted_set.SortedSet.contains.Goals as goal

pub returns : goal.returns
returns g c =
    let list = c.deref.ensures.value in
    let found = found_where_equal g.met.T.Ord.total g.met.T.Ord.matches_eq c.deref.result.now c.args.item.now (rw list c.self.invariant) c.binary_search.result c.binary_search.ensures.bound c.binary_search.ensures.position in
    rw c.is_ok.ensures.value (subst (λ xs. IsTrue (is_ok c.binary_search.result) ↔ Any (λ x. g.T.PartialEq.eq x c.args.item.now ≡ true) xs) (list ∙ c.self.view_is) found)
