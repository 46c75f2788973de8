use Rattle.std.proofs.Common.{◌∙◌, ap, rules, ℕ, List, map}
use Rattle.std.specs.Prelude.{◌&&◌}
use Rattle.std.proofs.lemmas.Fn.{filter_same}
use Rattle.guppy_command.specs.declared.options.Kinds.{Kinds}
use Rattle.guppy_program.specs.Answer.{is_member}
use Rattle.guppy_print.specs.Shown.{link_shown}
use Rattle.guppy_program.proofs.Membership.{filter-seen}
use Rattle.guppy_program.proofs.members.keep_links.Goals as goal

pub returns : goal.returns
returns c =
    let packages = c.args.members.now.graph.packages in
    let test = λ (link : List ℕ × List ℕ × Kinds). is_member packages link.0 && is_member packages link.1 in
    ap (map link_shown) (filter_same _ (λ link. test (link_shown link)) _ (λ x b f' k. search rules) _ _ c.retain.ensures.filtered)
    ∙ filter-seen test link_shown c.args.links.now.items
