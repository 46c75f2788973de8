use Rattle.std.proofs.Common.{◌≡◌, arith}
use Rattle.guppy_features.specs.Questions.{question_of}
use Rattle.guppy_features.specs.Follows.{feature_count}
use Rattle.guppy_features.proofs.Adding.{adds_below_more, adds_below_all}
use Rattle.guppy_features.proofs.Adders.{count_is}
use Rattle.guppy_features.proofs.question.Asked.add_all_features.Goals as goal

pub loop-place-preserved : goal.loop-place-preserved
loop-place-preserved c = adds_below_more c.loop-place.place c.loop-place.invariant (rw c.feature.ensures at c.in_ok-add_rule.ensures)

pub returns : goal.returns
returns c =
    let count = count_is (question_of c.args.self) c.args.position c.package_at.result.now c.package_at.ensures in
    let same : c.loop-place.place ≡ feature_count (question_of c.args.self) c.args.position = rw count (omega arith) in
    adds_below_all c.loop-place.place (feature_count (question_of c.args.self) c.args.position) same c.loop-place.invariant
