use Rattle.std.proofs.Common.{◌<◌, ◌≤◌, length, arith, sym}
use Rattle.guppy_features.specs.Chosen.{chosen_of, is_accepted, seen_value}
use Rattle.guppy_features.proofs.ChosenLists.{first_fails, more_pass, all_pass}
use Rattle.guppy_features.proofs.chosen.Chosen.first_refused.Goals as goal

pub returns-then-not-is_accepted : goal.returns-then-not-is_accepted
returns-then-not-is_accepted c =
    let below : c.loop-place.place < length c.args.features.now = omega arith in
    first_fails seen_value (is_accepted (chosen_of c.args.self)) c.args.features.now c.loop-place.place c.index-features-place.result below c.index-features-place.is c.loop-place.invariant (sym c.if-not-is_accepted.ensures)

pub loop-place-preserved : goal.loop-place-preserved
loop-place-preserved c =
    let below : c.loop-place.place < length c.args.features.now = omega arith in
    more_pass seen_value (is_accepted (chosen_of c.args.self)) c.args.features.now c.loop-place.place c.index-features-place.result below c.index-features-place.is c.loop-place.invariant (sym c.if-not-is_accepted.ensures)

pub returns : goal.returns
returns c =
    let past : length c.args.features.now ≤ c.loop-place.place = omega arith in
    all_pass seen_value (is_accepted (chosen_of c.args.self)) c.args.features.now c.loop-place.place past c.loop-place.invariant
