use Rattle.std.proofs.Common.{◌≡◌, length, drop}
use Rattle.guppy.specs.Same.{same_ids}
use Rattle.guppy.proofs.set.equal.have_same_ids.Given as goal

abbrev pub invariant-loop-package : goal.invariant-loop-package
invariant-loop-package l = same_ids l.packages l.others ≡ same_ids (drop (length l.yielded) l.packages) (drop (length l.yielded) l.others)
