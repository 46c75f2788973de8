use Rattle.std.proofs.Common.{◌≡◌, Some, sym}
use Rattle.std.specs.Prelude.{slice_get}
use Rattle.std.proofs.lemmas.Result.{on_ok_weaker}
use Rattle.guppy_features.specs.Questions.{question_of}
use Rattle.guppy_features.proofs.Adders.{adds_switches}
use Rattle.guppy_features.proofs.question.Asked.add_feature_at.Goals as goal

pub returns : goal.returns
returns c =
    let values = c.in-Some.values.now in
    let entry : slice_get c.package_at.result.now.named_features.entries c.args.place ≡ Some (c.in-Some.field-0-0.now, values) = sym c.in-Some.ensures.entry in
    let added = rw (c.feature.ensures, c.as_slice.ensures.value) at c.add_values.ensures in
    on_ok_weaker c.add_values.result (adds_switches (question_of c.args.self) c.args.position c.args.side c.args.place c.package_at.result.now (c.in-Some.field-0-0.now, values) c.package_at.ensures entry) added
