use Rattle.std.proofs.Common.{◌∙◌, ap, rules, map}
use Rattle.std.proofs.lemmas.Fn.{filter_same}
use Rattle.guppy_program.specs.Answer.{is_member}
use Rattle.guppy_dot.specs.Dot.{Node, node_shown}
use Rattle.guppy_program.proofs.Membership.{filter-seen}
use Rattle.guppy_program.proofs.members.keep_nodes.Goals as goal

pub returns : goal.returns
returns c =
    let test = λ (node : Node). is_member c.args.members.now.graph.packages node.id in
    ap (map node_shown) (filter_same _ (λ node. test (node_shown node)) _ (λ x b f' k. search rules) _ _ c.retain.ensures.filtered)
    ∙ filter-seen test node_shown c.args.nodes.now.items
