use Rattle.std.proofs.Common.{◌∙◌, ap, refl, rules, map}
use Rattle.std.specs.Option.{option_cmp}
use Rattle.std.specs.Ordering.{is_lt}
use Rattle.std.proofs.lemmas.Fn.{always_returns_same}
use Rattle.std.proofs.lemmas.Iterator.{items_from_drains}
use Rattle.std.proofs.lemmas.Iterator.Consumers.{YieldsList-from_first}
use Rattle.std.proofs.lemmas.List.Sorted.{IsPermutation-map, IsPermutation-trans, ranks_by}
use Rattle.guppy.specs.Iterators.{packages_left}
use Rattle.guppy.specs.Views.{package_seen}
use Rattle.guppy_extras.specs.Duplicates.{by_name}
use Rattle.guppy_extras.specs.Sorted.{record_of}
use Rattle.guppy_extras.proofs.NameOrder.{records_total}
use Rattle.guppy_extras.proofs.namesakes.sorted.Goals as goal

pub returns : goal.returns
returns c =
    let ran = c.in_ok-packages.ensures.ran in
    let given = items_from_drains ran.0 ran.1 (YieldsList-from_first package_seen packages_left {s = c.packages.result} (packages_left c.packages.result) refl) in
    let seen = ap (map package_seen) ran.2.0 ∙ given in
    record {
      all = IsPermutation-trans _ _ _ (rw seen c.packages.ensures) (IsPermutation-map package_seen _ _ c.sort_unstable_by.ensures.permutation);
      ascends = c.sort_unstable_by.ensures.sorted (λ a b. is_lt (option_cmp by_name (record_of a) (record_of b))) (ranks_by records_total record_of) (always_returns_same _ _ _ (λ a r f' k. search rules));
    }
