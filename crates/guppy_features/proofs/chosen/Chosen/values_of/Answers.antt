use Rattle.std.proofs.Common.{◌≡◌, [], ◌∷◌, ◌++◌, None, Some, Vec, Global, map, ap, sym, ◌∙◌}
use Rattle.std.specs.Prelude.{option_map}
use Rattle.guppy_data.specs.declared.texts.named_feature.NamedFeatureDep.{NamedFeatureDep}
use Rattle.guppy_features.specs.Chosen.{chosen_of, seen_value, seen_wanted, taken_of}
use Rattle.guppy_features.proofs.ChosenLists.{made_none, made_some}
use Rattle.guppy_features.proofs.chosen.Chosen.values_of.Goals as goal
use Rattle.guppy_features.proofs.chosen.Chosen.values_of.Goals.{in-Some+in_ok-to_value+in_ok-push, in_default}

pub loop-feature-preserved : goal.loop-feature-preserved
loop-feature-preserved c =
    let h = taken_of (chosen_of c.args.self) c.args.position in
    let features = c.args.features.now in
    let i = c.loop-feature.feature-index in
    let x = c.feature-item.result in
    let vs = c.loop-feature.values.items in
    elim c.match-taken_of.branch [
      | in-Some+in_ok-to_value+in_ok-push w ↦
          let v = w.in_ok-to_value.field-0 in
          let is : h (seen_value x) ≡ Some (seen_value v) = sym c.taken_of.ensures ∙ ap (option_map seen_wanted) w.in-Some.is ∙ ap Some (sym w.in_ok-to_value.ensures) in
          let pushed : c.match-taken_of.values.items ≡ vs ++ v ∷ [] = ap (λ (values : Vec NamedFeatureDep Global). values.items) w.values-is ∙ w.in_ok-push.ensures.items in
          ap (map seen_value) pushed ∙ made_some seen_value h features i x seen_value vs c.loop-feature-test.true c.feature-item.is c.loop-feature.invariant v is
      | in_default w ↦
          let is : h (seen_value x) ≡ None = sym c.taken_of.ensures ∙ ap (option_map seen_wanted) w.in_default.is in
          let same : c.match-taken_of.values.items ≡ vs = ap (λ (values : Vec NamedFeatureDep Global). values.items) w.values-is in
          ap (map seen_value) same ∙ made_none seen_value h features i x seen_value vs c.loop-feature-test.true c.feature-item.is c.loop-feature.invariant is
    ]
