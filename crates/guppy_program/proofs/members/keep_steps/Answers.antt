use Rattle.std.proofs.Common.{◌∙◌, ap, rules, ℕ, List, map}
use Rattle.std.proofs.lemmas.Fn.{filter_same}
use Rattle.guppy_program.specs.Answer.{is_member}
use Rattle.guppy_print.specs.Shown.{step_shown}
use Rattle.guppy_command.specs.declared.options.Kinds.{Kinds}
use Rattle.guppy_program.proofs.Membership.{filter-seen}
use Rattle.guppy_program.proofs.members.keep_steps.Goals as goal

pub returns : goal.returns
returns c =
    let test = λ (step : List ℕ × Kinds). is_member c.args.members.now.graph.packages step.0 in
    ap (map step_shown) (filter_same _ (λ step. test (step_shown step)) _ (λ x b f' k. search rules) _ _ c.retain.ensures.filtered)
    ∙ filter-seen test step_shown c.args.steps.now.items
