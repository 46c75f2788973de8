use Rattle.std.proofs.Common.{⊎_elim, sym, subst, Bor, map}
use Rattle.guppy_data.specs.declared.texts.package_id.PackageId.{PackageId}
use Rattle.guppy_print.specs.Printed.{called}
use Rattle.guppy_program.specs.Publish.{IsHindranceCause}
use Rattle.guppy_program.proofs.publish.none_hindered.Goals as goal

pub returns-clause-err : goal.returns-clause-err
returns-clause-err g c =
    let graph = c.args.graph.now in
    let call = called c.args.options.now (g.F.Format.format.text graph.packages) in
    let P = IsHindranceCause graph call (map (λ (id : Bor PackageId). id.now) c.args.ids.now) in
    ⊎_elim
    (λ told. subst P (sym told) (record {
      from = c.in-Some.member.now;
      to = c.in-Some.needed.now;
      first = c.in-Some.ensures;
      member_is = c.text_of-member.ensures graph.packages c.requires.names;
      needed_is = c.text_of.ensures graph.packages c.requires.names;
    }))
    (λ told. subst P (sym told) tt) c.unpublishable.ensures
