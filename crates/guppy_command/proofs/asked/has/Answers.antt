use Rattle.std.proofs.Common.{◌∙◌, sym, rules}
use Rattle.std.proofs.lemmas.Iterator.{YieldsList-from_slice}
use Rattle.std.proofs.lemmas.Iterator.Search.{any_from_yields_List}
use Rattle.guppy_data.proofs.ListedNames.{list_any-map}
use Rattle.guppy_command.specs.Asked.{is_option}
use Rattle.guppy_command.specs.Shown.{argument_shown}
use Rattle.guppy_command.proofs.asked.has.Goals as goal

pub returns : goal.returns
returns c =
    let name = c.args.name.now in
    any_from_yields_List (λ argument. is_option name (argument_shown argument)) _ _ _ c.any.ensures.ran (YieldsList-from_slice c.args.given.now c.iter.ensures.rest) (λ x b q k. search rules)
    ∙ sym (list_any-map (is_option name) argument_shown c.args.given.now)
