use Rattle.std.proofs.Common.{◌∙◌, ap, rules, ℕ, List, Bor, Vec, Global, map}
use Rattle.std.proofs.lemmas.Fn.{filter_same}
use Rattle.guppy_program.specs.Answer.{is_member, is_of}
use Rattle.guppy_program.proofs.Membership.{filter-seen}
use Rattle.guppy_program.proofs.members.keep_needs.Goals as goal

pub returns : goal.returns
returns c =
    let test = is_of (is_member c.args.members.now.graph.packages) in
    let seen = λ (row : Vec (Bor (List ℕ)) Global). map (λ (id : Bor (List ℕ)). id.now) row.items in
    ap (map seen) (filter_same _ (λ row. test (seen row)) _ (λ x b f' k. search rules) _ _ c.retain.ensures.filtered)
    ∙ filter-seen test seen c.args.rows.now.items
