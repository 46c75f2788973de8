use Rattle.std.proofs.Common.{◌↔◌, ℕ, List, Bor, Contains, map, subst}
use Rattle.std.specs.Ordering.{nat_cmp}
use Rattle.std.specs.Cmp.Lexicographic.{slice_cmp}
use Rattle.std.proofs.lemmas.Slice.Eq.{bytes_eq-Decides}
use Rattle.guppy_print.proofs.PrintedTexts.{kept_ids, IsStrictlySortedBy-map}
use Rattle.guppy_print.proofs.print.sorted_packages.Goals as goal

pub returns-clause-ascending : goal.returns-clause-ascending
returns-clause-ascending c = IsStrictlySortedBy-map (λ (r : Bor (List ℕ)). r.now) (slice_cmp nat_cmp) c.new.result c.new.ensures.sorted

pub returns-clause-same : goal.returns-clause-same
returns-clause-same c id =
    subst (λ (ids : List (Bor (List ℕ))). Contains (map (λ r. r.now) c.new.result) id ↔ Contains (map (λ r. r.now) ids) id)
    (c.in_ok-to_vec.ensures.items_if_clones_equal (λ x y is. is))
    (kept_ids _ (λ x y same. (bytes_eq-Decides x.now y.now).0 same) _ _ c.new.ensures.kept id)
