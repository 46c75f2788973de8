use Rattle.std.proofs.Common.{◌∙◌, ap, rules, map}
use Rattle.std.proofs.lemmas.Fn.{filter_same}
use Rattle.guppy_built.specs.Rows.{Row, row_of}
use Rattle.guppy_program.specs.Answer.{is_member}
use Rattle.guppy_program.proofs.Membership.{filter-seen}
use Rattle.guppy_program.proofs.members.keep_built.Goals as goal

pub returns : goal.returns
returns c =
    let test = λ (row : Row). is_member c.args.members.now.graph.packages row.id in
    ap (map row_of) (filter_same _ (λ row. test (row_of row)) _ (λ x b f' k. search rules) _ _ c.retain.ensures.filtered)
    ∙ filter-seen test row_of c.args.rows.now.items
