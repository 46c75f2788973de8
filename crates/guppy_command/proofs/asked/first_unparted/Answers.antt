use Rattle.std.proofs.Common.{◌∙◌, sym, ap, rules, option_map}
use Rattle.std.proofs.lemmas.Iterator.{YieldsList-from_slice}
use Rattle.std.proofs.lemmas.Iterator.Search.{find_from_yields_List}
use Rattle.guppy_command.specs.Asked.{is_unparted}
use Rattle.guppy_command.proofs.ShownItems.{find-map}
use Rattle.guppy_command.proofs.asked.first_unparted.Goals as goal

pub returns : goal.returns
returns c =
    let found = find_from_yields_List (λ text. is_unparted text.now) _ _ _ c.find.ensures.ran (YieldsList-from_slice c.args.values.now c.iter.ensures.rest) (λ x b q k. search rules) in
    ap (option_map (λ text. text.now)) (c.copied.ensures ∙ found) ∙ sym (find-map is_unparted (λ text. text.now) c.args.values.now)
