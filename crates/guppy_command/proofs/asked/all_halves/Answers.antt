use Rattle.std.proofs.Common.{◌∙◌, ◌∷◌, ◌++◌, [], ℕ, List, Bor, refl, sym, ap, map, option_map, take}
use Rattle.std.specs.List.{cons_option, filter_map}
use Rattle.std.proofs.lemmas.List.{append-nil, map_push}
use Rattle.guppy_command.specs.Asked.{halves_of}
use Rattle.guppy_command.specs.Shown.{texts}
use Rattle.guppy_command.proofs.FirstItems.{made_with}
use Rattle.guppy_command.proofs.asked.all_halves.Goals.{in-Some+in_ok-push, in_default}
use Rattle.guppy_command.proofs.asked.all_halves.Goals as goal

pub loop-text-preserved : goal.loop-text-preserved
loop-text-preserved c =
    let seen : Bor (List ℕ) × Bor (List ℕ) → List ℕ × List ℕ = λ both. (both.0.now, both.1.now) in
    let front = filter_map halves_of (texts (take c.loop-text.text-index c.args.values.now)) in
    let step = made_with (λ text. text.now) c.args.values.now c.loop-text.text-index _ _ c.loop-text-test.true refl halves_of _ c.halves_of.ensures in
    elim c.match-halves_of.branch [
      | in-Some+in_ok-push w ↦
          ap (λ v. map seen v.items) w.halves-is
          ∙ ap (map seen) w.in_ok-push.ensures.items
          ∙ map_push seen c.loop-text.halves.items w.in-Some.both
          ∙ ap (λ done. done ++ seen w.in-Some.both ∷ []) c.loop-text.invariant
          ∙ ap (λ o. front ++ cons_option (option_map seen o) []) (sym w.in-Some.is)
          ∙ sym step
      | in_default w ↦
          ap (λ v. map seen v.items) w.halves-is
          ∙ c.loop-text.invariant
          ∙ sym (append-nil front)
          ∙ ap (λ o. front ++ cons_option (option_map seen o) []) (sym w.in_default.is)
          ∙ sym step
    ]
