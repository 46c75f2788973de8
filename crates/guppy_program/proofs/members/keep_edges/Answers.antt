use Rattle.std.proofs.Common.{◌∙◌, ap, rules, map}
use Rattle.std.specs.Prelude.{◌&&◌}
use Rattle.std.proofs.lemmas.Fn.{filter_same}
use Rattle.guppy_program.specs.Answer.{is_member}
use Rattle.guppy_dot.specs.Dot.{Edge, edge_shown}
use Rattle.guppy_program.proofs.Membership.{filter-seen}
use Rattle.guppy_program.proofs.members.keep_edges.Goals as goal

pub returns : goal.returns
returns c =
    let packages = c.args.members.now.graph.packages in
    let test = λ (edge : Edge). is_member packages edge.from && is_member packages edge.to in
    ap (map edge_shown) (filter_same _ (λ edge. test (edge_shown edge)) _ (λ x b f' k. search rules) _ _ c.retain.ensures.filtered)
    ∙ filter-seen test edge_shown c.args.edges.now.items
