use Rattle.std.proofs.Common.{◌≡◌, take}
use Rattle.guppy_data.proofs.platform.status.copies_of.Given as goal

abbrev pub invariant-loop-spec : goal.invariant-loop-spec
invariant-loop-spec l = l.copies.items ≡ take l.spec-index l.specs
