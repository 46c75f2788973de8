use Rattle.std.proofs.Common.{◌≡◌, drop}
use Rattle.guppy_metadata.specs.Fits.{is_named}
use Rattle.guppy_metadata.proofs.fits.is_named.Given as goal

abbrev pub invariant-loop-index : goal.invariant-loop-index
invariant-loop-index l = is_named (drop l.index l.name) (drop l.index l.in_code) ≡ is_named l.name l.in_code
