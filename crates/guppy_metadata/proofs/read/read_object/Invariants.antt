use Rattle.std.proofs.Common.{◌-◌, map, length}
use Rattle.guppy_metadata.proofs.Objects.{seen}
use Rattle.guppy_metadata.proofs.Turns.{MembersRead}
use Rattle.guppy_metadata.proofs.read.read_object.Given as goal

abbrev pub invariant-loop-members : goal.invariant-loop-members
invariant-loop-members l = MembersRead (l.depth - 1) l.initial.reader (map seen l.members.items) l.reader

abbrev pub decreases-loop-members : goal.decreases-loop-members
decreases-loop-members l = length l.reader
