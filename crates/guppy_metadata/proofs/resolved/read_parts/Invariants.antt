use Rattle.std.proofs.Common.{ℕ, List, length}
use Rattle.json.specs.Json.{Json}
use Rattle.guppy_metadata.specs.Resolved.{TellsResolved}
use Rattle.guppy_metadata.proofs.Turns.{MembersRead, object_of}
use Rattle.guppy_metadata.proofs.resolved.read_parts.Given as goal

abbrev pub invariant-loop-parts : goal.invariant-loop-parts
invariant-loop-parts l = (rows : List (List ℕ × Json)) × MembersRead 122 l.initial.reader rows l.reader × TellsResolved (object_of rows) l.parts

abbrev pub decreases-loop-parts : goal.decreases-loop-parts
decreases-loop-parts l = length l.reader
