use Rattle.std.proofs.lemmas.Result.{on_ok_weaker}
use Rattle.guppy_built.specs.Rows.{row_of}
use Rattle.guppy_changes.specs.Adding.{Adds}
use Rattle.guppy_changes.specs.Shown.{FeatureMarks, all_shown}
use Rattle.guppy_changes.proofs.Steps.{adds_then}
use Rattle.guppy_changes.proofs.rows.add_row.Goals as goal

pub returns : goal.returns
returns c =
    on_ok_weaker c.add_features.result (λ (features : Adds (FeatureMarks (row_of c.args.row.now)) (all_shown c.add.new.marks.items) (all_shown c.add_features.new.marks.items)).
    adds_then c.in_ok-add.ensures features) c.add_features.ensures
