use Rattle.std.proofs.Common.{rules}
use Rattle.std.proofs.lemmas.Cmp.{then_total, on_total, nat_cmp_total}
use Rattle.std.proofs.lemmas.Fn.{always_returns_same}
use Rattle.std.proofs.lemmas.List.Sorted.{IsPermutation-trans, ranks_by}
use Rattle.guppy_graph.specs.Keys.{or_empty}
use Rattle.guppy_graph.proofs.keyed.sorted.Goals as goal

pub returns : goal.returns
returns g c =
    let permutation = IsPermutation-trans _ _ _ c.requires c.sort_unstable_by.ensures.permutation in
    record { permutation = permutation; ascends = c.sort_unstable_by.ensures.sorted _ (ranks_by (then_total (on_total (λ p. or_empty (g.S.Keyed.key_at c.args.source.now p)) g.S.Keyed.total) nat_cmp_total) (λ x. x)) (always_returns_same _ _ _ (λ a r f' k. search rules)) }
