use Rattle.std.proofs.Common.{◌∙◌, sym, ap, option_map}
use Rattle.guppy_command.specs.Asked.{picked}
use Rattle.guppy_command.specs.Shown.{argument_shown}
use Rattle.guppy_command.proofs.asked.picked.Goals as goal

pub returns-in-Some : goal.returns-in-Some
returns-in-Some c = c.value_for.ensures ∙ ap (λ name. picked (option_map (λ name. name.now) name) (argument_shown c.args.argument.now)) (sym c.in-Some.is)

pub returns-in-None : goal.returns-in-None
returns-in-None c = c.word_of.ensures ∙ ap (λ name. picked (option_map (λ name. name.now) name) (argument_shown c.args.argument.now)) (sym c.in-None.is)
