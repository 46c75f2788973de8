use Rattle.std.proofs.Common.{◌∙◌, sym, ap, rules, option_map}
use Rattle.std.specs.Str.{bytes_eq}
use Rattle.std.proofs.lemmas.Iterator.{YieldsList-from_slice}
use Rattle.std.proofs.lemmas.Iterator.Search.{find_from_yields_List}
use Rattle.guppy_command.specs.Shown.{row_shown}
use Rattle.guppy_command.proofs.ShownItems.{find-map, option_map-twice}
use Rattle.guppy_command.proofs.grammar.called.Goals as goal

pub returns : goal.returns
returns c =
    let name = c.args.name.now in
    let found = find_from_yields_List (λ row. bytes_eq row.0.now name) _ _ _ c.find.ensures.ran (YieldsList-from_slice c.args.options.now c.iter.ensures.rest) (λ x b q k. search rules) in
    option_map-twice (λ row. row.now) row_shown c.find.result ∙ ap (option_map row_shown) found ∙ sym (find-map (λ row. bytes_eq row.name name) row_shown c.args.options.now)
