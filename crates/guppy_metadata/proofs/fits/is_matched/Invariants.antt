use Rattle.std.proofs.Common.{◌≡◌, drop}
use Rattle.guppy_metadata.specs.Fits.{is_matched}
use Rattle.guppy_metadata.proofs.fits.is_matched.Given as goal

abbrev pub invariant-loop-index : goal.invariant-loop-index
invariant-loop-index l = is_matched l.wanted.asking.now l.wanted.resolved.now l.wanted.needed.now (drop l.index l.declared) l.usage ≡ is_matched l.wanted.asking.now l.wanted.resolved.now l.wanted.needed.now l.declared l.usage
