use Rattle.std.proofs.Common.{map, take}
use Rattle.guppy_changes.specs.Missing.{AddsMissing}
use Rattle.guppy_changes.specs.Shown.{all_shown}
use Rattle.guppy_changes.proofs.missing.add_missing.Given as goal

abbrev pub invariant-loop-mark : goal.invariant-loop-mark
invariant-loop-mark l = AddsMissing (all_shown (take l.mark-index l.mark-items)) (all_shown l.others)
    (map (λ id. id.now) l.initial.ids.items) (map (λ id. id.now) l.ids.items)
