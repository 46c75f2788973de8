use Rattle.std.proofs.Common.{◌∙◌, sym, ap, rules, option_map}
use Rattle.std.proofs.lemmas.Iterator.{YieldsList-from_slice}
use Rattle.std.proofs.lemmas.Iterator.Search.{find_from_yields_List}
use Rattle.guppy_command.specs.Asked.{is_all}
use Rattle.guppy_command.proofs.ShownItems.{find-map}
use Rattle.guppy_command.proofs.asked.first_all.Goals as goal

pub returns : goal.returns
returns c =
    let found = find_from_yields_List (λ folder. is_all folder.now) _ _ _ c.find.ensures.ran (YieldsList-from_slice c.args.folders.now c.iter.ensures.rest) (λ x b q k. search rules) in
    ap (option_map (λ folder. folder.now)) (c.copied.ensures ∙ found) ∙ sym (find-map is_all (λ folder. folder.now) c.args.folders.now)
