use Rattle.std.proofs.Common.{◌≡◌, ◌∙◌, ◌<◌, length, sym, subst, rules}
use Rattle.guppy_graph.specs.Ids.{IsKnown}
use Rattle.guppy_print.proofs.KnownIds.{has_id-known}
use Rattle.guppy_cargo.proofs.KnownNames.{first_called}
use Rattle.guppy_cargo.proofs.input.JsonFormat.find.Goals as goal

pub returns-then-branch-clause-known : goal.returns-then-branch-clause-known
returns-then-branch-clause-known c = has_id-known c.new-id.result c.args.graph.now.packages (sym c.in_ok-has_package.ensures.exact ∙ c.if-branch.true)

pub returns-in_ok-clone-in-len1-clause-known : goal.returns-in_ok-clone-in-len1-clause-known
returns-in_ok-clone-in-len1-clause-known c =
    let packages = c.args.graph.now.packages in
    let some : 0 < length c.called.result.now = search rules in
    let same : c.in_ok-clone-in-len1.field-0 ≡ c.only-item.result = search rules in
    subst (IsKnown packages) (sym (same ∙ c.only-item.is)) (first_called packages c.args.word.now c.called.result.now c.only-item.result (c.called.ensures packages c.requires) some)
