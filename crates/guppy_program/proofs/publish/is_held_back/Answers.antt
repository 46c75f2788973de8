use Rattle.std.proofs.Common.{◌≡◌, subst}
use Rattle.std.specs.Prelude.{◌&&◌, slice_get, IsSomeAnd}
use Rattle.guppy_data.specs.PackagePublish.{seen_publish}
use Rattle.guppy.specs.Views.{graph_packages, package_position}
use Rattle.guppy_program.specs.Publish.{is_held_back}
use Rattle.guppy_program.proofs.Hindrances.{held, not_held}
use Rattle.guppy_program.proofs.publish.is_held_back.Goals as goal

pub returns-then-in_workspace : goal.returns-then-in_workspace
returns-then-in_workspace c =
    let o = slice_get (graph_packages c.args.metadata) (package_position c.args.metadata) in
    subst (λ b. IsSomeAnd o (λ r. (b && c.is_never.result) ≡ is_held_back r)) c.if-in_workspace.true
    (held o c.in_workspace.result c.is_never.result (seen_publish c.publish.result) c.in_workspace.ensures c.publish.ensures c.is_never.ensures)

pub returns-else-in_workspace : goal.returns-else-in_workspace
returns-else-in_workspace c =
    not_held (slice_get (graph_packages c.args.metadata) (package_position c.args.metadata)) c.in_workspace.result c.in_workspace.ensures c.if-in_workspace.false
