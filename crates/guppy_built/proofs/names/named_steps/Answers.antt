use Rattle.std.proofs.Common.{◌∙◌, Vec, Global, map, ap, sym}
use Rattle.std.specs.Prelude.{option_map}
use Rattle.std.proofs.lemmas.List.{get_or_default}
use Rattle.guppy_features.specs.declared.reason.Reason.{Reason}
use Rattle.guppy_features.proofs.ChosenLists.{made_none, made_some}
use Rattle.guppy_built.specs.Names.{named_step, step_shown}
use Rattle.guppy_built.specs.declared.names.NamedReason.{NamedReason}
use Rattle.guppy_built.proofs.names.named_steps.Goals as goal
use Rattle.guppy_built.proofs.names.named_steps.Goals.{in-Some+in_ok-push, in_default}

pub loop-reason-preserved : goal.loop-reason-preserved
loop-reason-preserved c =
    let h = named_step c.args.graph.now in
    let reasons = c.args.reasons.now in
    let i = c.loop-reason.reason-index in
    let below = c.loop-reason-test.true in
    let steps = c.loop-reason.steps.items in
    elim c.match-named_step.branch [
      | in-Some+in_ok-push w ↦
          let pushed = ap (λ (steps : Vec NamedReason Global). steps.items) w.steps-is ∙ w.in_ok-push.ensures.items in
          ap (map step_shown) pushed ∙ made_some (λ (r : Reason). r) h reasons i _ step_shown steps below (get_or_default reasons i _ _ below) c.loop-reason.invariant w.in-Some.step
          (sym c.named_step.ensures ∙ ap (option_map step_shown) w.in-Some.is)
      | in_default w ↦
          let same = ap (λ (steps : Vec NamedReason Global). steps.items) w.steps-is in
          ap (map step_shown) same ∙ made_none (λ (r : Reason). r) h reasons i _ step_shown steps below (get_or_default reasons i _ _ below) c.loop-reason.invariant
          (sym c.named_step.ensures ∙ ap (option_map step_shown) w.in_default.is)
    ]
