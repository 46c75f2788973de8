use Rattle.std.proofs.Common.{◌∙◌, ◌∷◌, ◌++◌, [], refl, sym, ap, map, option_map, take}
use Rattle.std.specs.List.{cons_option, filter_map}
use Rattle.std.proofs.lemmas.List.{append-nil, map_push}
use Rattle.guppy_command.specs.Asked.{picked}
use Rattle.guppy_command.specs.Shown.{argument_shown, texts}
use Rattle.guppy_command.proofs.FirstItems.{made_with}
use Rattle.guppy_command.proofs.asked.all_picked.Goals.{in-Some+in_ok-push, in_default}
use Rattle.guppy_command.proofs.asked.all_picked.Goals as goal

pub loop-argument-preserved : goal.loop-argument-preserved
loop-argument-preserved c =
    let pick = picked (option_map (λ name. name.now) c.args.name) in
    let front = filter_map pick (map argument_shown (take c.loop-argument.argument-index c.args.given.now)) in
    let step = made_with argument_shown c.args.given.now c.loop-argument.argument-index _ _ c.loop-argument-test.true refl pick _ c.picked.ensures in
    elim c.match-picked.branch [
      | in-Some+in_ok-push w ↦
          ap (λ v. texts v.items) w.values-is
          ∙ ap texts w.in_ok-push.ensures.items
          ∙ map_push (λ text. text.now) c.loop-argument.values.items w.in-Some.value
          ∙ ap (λ done. done ++ w.in-Some.value.now ∷ []) c.loop-argument.invariant
          ∙ ap (λ o. front ++ cons_option (option_map (λ text. text.now) o) []) (sym w.in-Some.is)
          ∙ sym step
      | in_default w ↦
          ap (λ v. texts v.items) w.values-is
          ∙ c.loop-argument.invariant
          ∙ sym (append-nil front)
          ∙ ap (λ o. front ++ cons_option (option_map (λ text. text.now) o) []) (sym w.in_default.is)
          ∙ sym step
    ]
