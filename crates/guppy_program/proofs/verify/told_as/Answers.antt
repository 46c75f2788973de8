use Rattle.std.proofs.Common.{inl}
use Rattle.guppy_print.specs.Printed.{called}
use Rattle.guppy_program.proofs.Refusals.{tells_other}
use Rattle.guppy_program.proofs.verify.told_as.Goals as goal

pub returns-in_default : goal.returns-in_default
returns-in_default g c packages are =
    inl (c.of.ensures, tells_other g.F.Format.format (called c.args.options.now (g.F.Format.format.text packages)) _ _ c.in_default.not-Cycle)
