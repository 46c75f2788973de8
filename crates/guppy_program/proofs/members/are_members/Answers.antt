use Rattle.std.proofs.Common.{◌∙◌, sym, rules, ℕ, List, Bor}
use Rattle.std.proofs.lemmas.Iterator.{YieldsList-from_slice}
use Rattle.std.proofs.lemmas.Iterator.Search.{all_from_yields_List}
use Rattle.std.proofs.lemmas.List.Folds.{list_all-map}
use Rattle.guppy_program.specs.Answer.{is_member}
use Rattle.guppy_program.proofs.members.are_members.Goals as goal

pub returns : goal.returns
returns c =
    let test = is_member c.args.members.now.graph.packages in
    all_from_yields_List (λ (id : Bor (List ℕ)). test id.now) _ _ _ c.all.ensures.ran (YieldsList-from_slice c.args.ids.now c.iter.ensures.rest) (λ x b q k. search rules)
    ∙ sym (list_all-map test (λ (id : Bor (List ℕ)). id.now) c.args.ids.now)
