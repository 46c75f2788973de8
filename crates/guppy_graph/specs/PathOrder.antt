-- Paths are in a total order, by their lists of components.
use Rattle.std.specs.Cmp.{IsTotalOrder, on_total, then_total, nat_cmp_total}
use Rattle.std.specs.Cmp.Lexicographic.{lists_total, on_texts}
use Rattle.guppy_data.specs.Path.{components, rank_of, name_of, path_cmp}

pub path_total : IsTotalOrder path_cmp
path_total = on_total components
    (lists_total (then_total (on_total rank_of nat_cmp_total) (on_texts name_of)))
