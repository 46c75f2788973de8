use Rattle.std.proofs.Common.{◌≡◌, take}
use Rattle.guppy_built.specs.Features.{needed_positions}
use Rattle.guppy_built.proofs.askers.needed_positions.Given as goal

abbrev pub invariant-loop-way : goal.invariant-loop-way
invariant-loop-way l = l.positions.items ≡ needed_positions (take l.way-index l.ways)
