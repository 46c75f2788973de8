use Rattle.std.proofs.Common.{◌≡◌, ◌∙◌, ap, subst, Bor, string_bytes, if◌then◌else◌}
use Rattle.std.specs.Prelude.{slice_get, IsSomeAnd}
use Rattle.std.proofs.lemmas.Result.{IfOk-weaker}
use Rattle.guppy_graph.specs.Graph.{GraphData}
use Rattle.guppy.specs.Views.{package_position}
use Rattle.guppy_command.specs.Ids.{full_name_of, is_only}
use Rattle.guppy_print.specs.Flags.{spec_of}
use Rattle.guppy_print.proofs.FlaggedPackages.{spec_known, spec_unknown}
use Rattle.guppy_print.proofs.flags.spec_of.Goals as goal

pub returns-in_default : goal.returns-in_default
returns-in_default g c =
    let packages = c.args.graph.now.packages in
    IfOk-weaker c.from_str.result _ _
    (λ text told. told ∙ c.repr.ensures ∙ spec_unknown (g.F.Format.format.meant packages) c.args.id.now packages (λ known. let no = c.in_default.ensures.known known in absurd (cc no)))
    c.from_str.ensures.ok

pub returns-then-branch : goal.returns-then-branch
returns-then-branch g c =
    let packages = c.args.graph.now.packages in
    let meant = g.F.Format.format.meant packages in
    let id = c.args.id.now in
    let p = package_position c.in-Ok.metadata in
    let found = c.in-Ok.ensures.found in
    let name = string_bytes c.in_ok-name.name in
    let is = subst (λ (graph : Bor GraphData). IsSomeAnd (slice_get graph.now.packages p) (λ r. name ≡ full_name_of r)) found.0 c.in_ok-name.ensures in
    let alone = c.in_ok-means.ensures ∙ ap (λ word. is_only id (meant word)) c.as_str.ensures.value in
    subst (λ b. (if b then name else id) ≡ spec_of meant packages id) c.if-branch.true
    (spec_known meant id packages c.requires.distinct p found.1 name is c.in_ok-means.field-0 alone)

pub returns-else-branch : goal.returns-else-branch
returns-else-branch g c =
    let packages = c.args.graph.now.packages in
    let meant = g.F.Format.format.meant packages in
    let id = c.args.id.now in
    let p = package_position c.in-Ok.metadata in
    let found = c.in-Ok.ensures.found in
    let name = string_bytes c.in_ok-name.name in
    let is = subst (λ (graph : Bor GraphData). IsSomeAnd (slice_get graph.now.packages p) (λ r. name ≡ full_name_of r)) found.0 c.in_ok-name.ensures in
    let alone = c.in_ok-means.ensures ∙ ap (λ word. is_only id (meant word)) c.as_str.ensures.value in
    let own = subst (λ b. (if b then name else id) ≡ spec_of meant packages id) c.if-branch.false
    (spec_known meant id packages c.requires.distinct p found.1 name is c.in_ok-means.field-0 alone) in
    IfOk-weaker c.from_str-else-branch.result _ _ (λ text told. told ∙ c.repr-else-branch.ensures ∙ own) c.from_str-else-branch.ensures.ok
