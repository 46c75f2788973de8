use Rattle.std.proofs.Common.{◌≡◌, ◌∙◌, rules, Some}
use Rattle.std.specs.Prelude.{slice_get}
use Rattle.std.specs.String.{string_bytes}
use Rattle.guppy_features.specs.Resolved.{is_resolved}
use Rattle.guppy_features.specs.Unresolved.{IsSwitchedOn}
use Rattle.guppy_features.proofs.Resolving.{has_resolved, unresolved_where}
use Rattle.guppy_features.proofs.set.CargoSet.is_unresolved.Goals as goal

pub returns-then-is_switched_on : goal.returns-then-is_switched_on
returns-then-is_switched_on c =
    let q = c.args.self.now in
    let switched : IsSwitchedOn q c.args.position c.args.place = c.is_switched_on.ensures.0 c.if-is_switched_on.true in
    let found : slice_get q.graph.packages c.args.position ≡ Some c.package_at.result.now = search rules in
    let called : slice_get c.package_at.result.now.optional_deps.keys c.args.place ≡ Some c.in-Some.name.now = search rules in
    let has : c.has_optional.result ≡ is_resolved q.graph c.args.position (string_bytes c.in-Some.name.now) =
    rw c.as_str.ensures.value at c.has_optional.ensures ∙ has_resolved q.graph c.args.position c.args.dependencies.now (string_bytes c.in-Some.name.now) c.requires.dependencies in
    unresolved_where q c.args.position c.args.place c.package_at.result.now found c.in-Some.name.now called c.has_optional.result switched has
