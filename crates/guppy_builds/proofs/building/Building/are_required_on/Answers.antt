use Rattle.std.proofs.Common.{false, refl}
use Rattle.std.specs.Prelude.{IsTrue}
use Rattle.std.specs.String.{string_bytes}
use Rattle.guppy_builds.specs.Building.{question_of}
use Rattle.guppy_builds.specs.Required.{IsRequiredOn}
use Rattle.guppy_builds.proofs.Searches.{each_more, each_all, not_each, not_so}
use Rattle.guppy_builds.proofs.building.Building.are_required_on.Goals as goal

pub loop-text-preserved : goal.loop-text-preserved
loop-text-preserved c =
    let P = IsRequiredOn (question_of c.args.self) c.args.position in
    let on = rw c.as_str.ensures.value at c.is_required_on.ensures in
    each_more string_bytes P c.args.texts.now c.loop-text.text-index c.text-item.result c.loop-text-test.true c.text-item.is c.loop-text.invariant (on.0 c.if-not-is_required_on.false)

pub returns-then-not-is_required_on : goal.returns-then-not-is_required_on
returns-then-not-is_required_on c =
    let P = IsRequiredOn (question_of c.args.self) c.args.position in
    let on = rw c.as_str.ensures.value at c.is_required_on.ensures in
    (λ (e : IsTrue false). absurd cc, λ each. absurd (not_each string_bytes P c.args.texts.now c.loop-text.text-index c.text-item.result c.loop-text-test.true c.text-item.is (not_so c.is_required_on.result on c.if-not-is_required_on.true) each))

pub returns : goal.returns
returns c =
    let P = IsRequiredOn (question_of c.args.self) c.args.position in
    (λ _. each_all string_bytes P c.args.texts.now c.loop-text.text-index c.loop-text-test.false c.loop-text.invariant, λ _. refl)
