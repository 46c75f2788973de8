use Rattle.std.proofs.Common.{subst}
use Rattle.guppy_graph.specs.Verified.{TellsVerifyFault, IsVerifyFault as IsGraphFault}
use Rattle.guppy_print.specs.Printed.{called}
use Rattle.guppy_program.proofs.Refusals.{verify_told, other_told}
use Rattle.guppy_program.proofs.verify.told.Goals as goal

pub returns-in-PackageGraphInternalError : goal.returns-in-PackageGraphInternalError
returns-in-PackageGraphInternalError g c =
    let graph = c.args.graph.now in
    verify_told g.F.Format.format (called c.args.options.now (g.F.Format.format.text graph.packages)) graph _ _ _
    (subst (TellsVerifyFault (IsGraphFault graph)) c.in-PackageGraphInternalError.is c.requires.fault) (c.told_as.ensures graph.packages c.requires.names)

pub returns-in_default : goal.returns-in_default
returns-in_default g c =
    let graph = c.args.graph.now in
    other_told g.F.Format.format (called c.args.options.now (g.F.Format.format.text graph.packages)) graph _ _ _ c.requires.fault c.in_default.not-PackageGraphInternalError c.of.ensures
