use Rattle.std.proofs.Common.{map}
use Rattle.std.proofs.lemmas.Result.{IfOk-weaker}
use Rattle.guppy_changes.specs.Changes.{AreChanged, setting_of, state}
use Rattle.guppy_changes.specs.Shown.{all_shown}
use Rattle.guppy_changes.proofs.Others.{kept_unchanged, others_along}
use Rattle.guppy_changes.proofs.changes.changed_packages.Goals as goal

pub returns : goal.returns
returns c =
    let before = c.args.before.now in
    let now = c.args.now.now in
    let was = c.in_ok-marks_before.ensures in
    let is = c.in_ok-marks_now.ensures in
    let xs = all_shown c.in_ok-marks_before.marks_before in
    let ys = all_shown c.in_ok-marks_now.marks_now in
    let ids = map (λ id. id.now) c.in_ok-differing.differing in
    IfOk-weaker c.others.result _ (λ found. AreChanged before now (setting_of c.args.setting.now) (map (λ id. id.now) found.items))
    (λ found others. record {
      rows_before = was.0;
      rows_now = is.0;
      built_before = was.1;
      built_now = is.1;
      others = others_along (λ id. kept_unchanged (state before was.0) (state now is.0) xs ys ids was.2 is.2 c.in_ok-differing.ensures id) others;
    }) c.others.ensures
