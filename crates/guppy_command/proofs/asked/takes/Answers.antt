use Rattle.std.proofs.Common.{◌≡◌, ◌∙◌, Some, sym, ap, map, option_map}
use Rattle.guppy_command.specs.Grammar.{called}
use Rattle.guppy_command.specs.Shown.{row_shown, texts}
use Rattle.guppy_command.proofs.Asking.{takes_among}
use Rattle.guppy_command.proofs.asked.takes.Goals as goal

pub returns-in-Some-3₀ : goal.returns-in-Some-3₀
returns-in-Some-3₀ c =
    let row : called (map row_shown c.args.options.now) c.args.name.now ≡ Some (row_shown c.in-Some.row.now) = sym c.called.ensures ∙ ap (option_map (λ row. row_shown row.now)) c.in-Some.is in
    c.is_among.ensures ∙ takes_among (map row_shown c.args.options.now) c.args.command.now c.args.name.now _ (texts c.in-Some-3₀.commands.now) row (ap (option_map (λ commands. texts commands.now)) c.in-Some-3₀.is)
