use Rattle.std.proofs.Common.{◌≡◌, map, take}
use Rattle.guppy_changes.specs.Adding.{Adds, OfSome}
use Rattle.guppy_changes.specs.Marks.{built_with}
use Rattle.guppy_changes.specs.Shown.{all_shown}
use Rattle.guppy_changes.proofs.rows.add_features.Given as goal

abbrev pub invariant-loop-feature : goal.invariant-loop-feature
invariant-loop-feature l = Adds (OfSome (map (λ name. name.now) (take l.feature-index l.feature-items)) (λ feature m. m ≡ (l.row.id.now, built_with l.row.platform.now feature)))
    (all_shown l.initial.marks.items) (all_shown l.marks.items)
