use Rattle.std.proofs.Common.{◌∙◌, ap, rules, ℕ, List, Bor, map}
use Rattle.std.proofs.lemmas.Fn.{filter_same}
use Rattle.guppy_program.specs.Publish.{is_publishable}
use Rattle.guppy_program.proofs.Membership.{filter-seen}
use Rattle.guppy_program.proofs.publish.keep_publishable.Goals as goal

pub returns : goal.returns
returns c =
    let test = is_publishable c.args.graph.now.packages in
    let seen = λ (id : Bor (List ℕ)). id.now in
    ap (map seen) (filter_same _ (λ id. test (seen id)) _ (λ x b f' k. search rules) _ _ c.retain.ensures.filtered)
    ∙ filter-seen test seen c.args.ids.now.items
