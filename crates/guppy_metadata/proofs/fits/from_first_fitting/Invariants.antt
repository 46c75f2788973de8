use Rattle.std.proofs.Common.{◌≡◌, filter, drop}
use Rattle.guppy_metadata.specs.Fits.{fits}
use Rattle.guppy_metadata.proofs.fits.from_first_fitting.Given as goal

abbrev pub invariant-loop-index : goal.invariant-loop-index
invariant-loop-index l = filter (fits l.wanted.asking.now l.wanted.resolved.now l.wanted.needed.now) (drop l.index l.declared) ≡ filter (fits l.wanted.asking.now l.wanted.resolved.now l.wanted.needed.now) l.declared
