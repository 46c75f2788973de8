use Rattle.std.proofs.Common.{◌∙◌, sym}
use Rattle.guppy_print.proofs.KnownIds.{has_id-known}
use Rattle.guppy_lines.proofs.format.LinesFormat.find.Goals as goal

pub returns-then-branch-clause-known : goal.returns-then-branch-clause-known
returns-then-branch-clause-known c = has_id-known c.in_ok-id.id c.args.graph.now.packages (sym c.in_ok-has_package.ensures.exact ∙ c.if-branch.true)
