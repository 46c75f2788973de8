use Rattle.std.proofs.Common.{◌≡◌, sym, subst, Bor}
use Rattle.std.specs.Prelude.{Bool, slice_get, IsSomeAnd}
use Rattle.std.proofs.lemmas.Bool.{false_from_ne_true}
use Rattle.guppy_data.specs.PackagePublish.{seen_publish, recorded_publish}
use Rattle.guppy_data.specs.declared.records.PackageRecord.{PackageRecord}
use Rattle.guppy_graph.specs.Graph.{GraphData}
use Rattle.guppy.specs.Views.{package_position}
use Rattle.guppy_program.specs.Publish.{is_somewhere, is_publishable}
use Rattle.guppy_program.proofs.Membership.{passing-known}
use Rattle.guppy_program.proofs.PublishableMembers.{answered}
use Rattle.guppy_program.proofs.publish.is_publishable.Goals as goal

pub returns : goal.returns
returns c =
    let p = package_position c.in-Ok.metadata in
    let seen = seen_publish c.publish.result in
    let found = c.in-Ok.ensures.found in
    answered c.args.graph.now.packages c.requires c.args.id.now p found.1 seen
    (subst (λ (g : Bor GraphData). IsSomeAnd (slice_get g.now.packages p) (λ r. seen ≡ recorded_publish r.publish)) found.0 c.publish.ensures)
    c.is_never.result c.is_never.ensures

pub returns-in_default : goal.returns-in_default
returns-in_default c =
    let packages = c.args.graph.now.packages in
    let test : PackageRecord → Bool = λ r. is_somewhere (recorded_publish r.publish) in
    sym (false_from_ne_true (is_publishable packages c.args.id.now)
    (λ is. let at = passing-known test c.args.id.now packages is in let no = c.in_default.ensures.known (at.0, at.1) in absurd (cc no)))
