use Rattle.std.proofs.Common.{⊎_elim, sym, subst}
use Rattle.guppy_command.specs.Shown.{request_shown}
use Rattle.guppy_program.specs.Builds.{IsRequestCause}
use Rattle.guppy_print.specs.Printed.{called}
use Rattle.guppy_program.proofs.RefusedBuilds.{other_told, refused_told}
use Rattle.guppy_program.proofs.builds.fault_of.Goals as goal

pub returns-in-NoMember : goal.returns-in-NoMember
returns-in-NoMember g c places graph choice names chosen is =
    let format = g.F.Format.format in
    other_told places (called c.args.options.now (format.text graph.packages)) graph (format.meant graph.packages) (request_shown c.args.request.now) choice chosen c.in-NoMember.place _
    (rw c.in-NoMember.is at is) c.not_member.ensures

pub returns-in-UnknownFeature : goal.returns-in-UnknownFeature
returns-in-UnknownFeature g c places graph choice names chosen is =
    let format = g.F.Format.format in
    refused_told places (called c.args.options.now (format.text graph.packages)) graph (format.meant graph.packages) (request_shown c.args.request.now) choice chosen c.in-UnknownFeature.place _
    (rw c.in-UnknownFeature.is at is) c.refused.ensures

pub returns-in-Unresolved : goal.returns-in-Unresolved
returns-in-Unresolved g c places graph choice names chosen is =
    let format = g.F.Format.format in
    let P = IsRequestCause places (called c.args.options.now (format.text graph.packages)) graph (format.meant graph.packages) (request_shown c.args.request.now) in
    ⊎_elim
    (λ told. subst P (sym told) (record {
      choice = choice;
      chosen = chosen;
      id = c.in-Unresolved.«package».now;
      lacking = rw c.in-Unresolved.is at is;
      told = c.text_of.ensures graph.packages names;
    }))
    (λ told. subst P (sym told) tt) c.unresolved.ensures
