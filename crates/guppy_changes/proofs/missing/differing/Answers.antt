use Rattle.std.proofs.Common.{Bor, List, map, subst}
use Rattle.std.specs.Str.{bytes_eq}
use Rattle.std.proofs.lemmas.Slice.Eq.{bytes_eq-Decides}
use Rattle.guppy_data.specs.declared.texts.package_id.PackageId.{PackageId}
use Rattle.guppy_changes.specs.Missing.{AddsMissing}
use Rattle.guppy_changes.specs.Shown.{all_shown}
use Rattle.guppy_changes.proofs.Absent.{differing_both, differing_same}
use Rattle.guppy_changes.proofs.Sets.{set_made}
use Rattle.guppy_changes.proofs.missing.differing.Goals as goal

pub returns : goal.returns
returns c =
    let v = λ (id : Bor PackageId). id.now in
    let xs = all_shown c.args.before.now in
    let ys = all_shown c.args.now.now in
    let between = map v c.add_missing.new.ids.items in
    let ids = c.add_missing-2.new.ids.items in
    let first = subst (λ (none : List (Bor PackageId)). AddsMissing xs ys (map v none) between) c.new-ids.ensures.items c.in_ok-add_missing.ensures in
    differing_same xs ys (map v ids) (map v c.new.result)
    (set_made (λ (a b : Bor PackageId). bytes_eq a.now b.now) v (λ a b h. (bytes_eq-Decides a.now b.now).0 h) (λ a b e. (bytes_eq-Decides a.now b.now).1 e) ids c.new.result c.new.ensures.kept)
    (differing_both xs ys between (map v ids) first c.in_ok-add_missing-2.ensures)
