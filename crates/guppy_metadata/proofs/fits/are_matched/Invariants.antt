use Rattle.std.proofs.Common.{◌≡◌, drop}
use Rattle.guppy_metadata.specs.Fits.{are_matched}
use Rattle.guppy_metadata.proofs.fits.are_matched.Given as goal

abbrev pub invariant-loop-usage : goal.invariant-loop-usage
invariant-loop-usage l = are_matched l.wanted.asking.now l.wanted.resolved.now l.wanted.needed.now l.declared (drop l.usage-index l.usages) ≡ are_matched l.wanted.asking.now l.wanted.resolved.now l.wanted.needed.now l.declared l.usages
