use Rattle.std.proofs.Common.{◌≡◌, drop}
use Rattle.guppy_metadata.specs.Fits.{is_used}
use Rattle.guppy_metadata.proofs.fits.is_used.Given as goal

abbrev pub invariant-loop-usage : goal.invariant-loop-usage
invariant-loop-usage l = is_used l.declared (drop l.usage-index l.usages) ≡ is_used l.declared l.usages
