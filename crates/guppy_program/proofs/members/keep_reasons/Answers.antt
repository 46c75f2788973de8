use Rattle.std.proofs.Common.{◌∙◌, ap, rules, map}
use Rattle.std.proofs.lemmas.Fn.{filter_same}
use Rattle.guppy_built.specs.Names.{StepData, step_shown}
use Rattle.guppy_program.specs.Answer.{is_member}
use Rattle.guppy_program.proofs.Membership.{filter-seen}
use Rattle.guppy_program.proofs.members.keep_reasons.Goals as goal

pub returns : goal.returns
returns c =
    let test = λ (step : StepData). is_member c.args.members.now.graph.packages step.fact.id in
    ap (map step_shown) (filter_same _ (λ step. test (step_shown step)) _ (λ x b f' k. search rules) _ _ c.retain.ensures.filtered)
    ∙ filter-seen test step_shown c.args.steps.now.items
