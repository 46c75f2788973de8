use Rattle.std.proofs.Common.{ℕ, List, length}
use Rattle.json.specs.Json.{Json}
use Rattle.guppy_metadata.specs.Parts.{TellsParts}
use Rattle.guppy_metadata.proofs.Turns.{MembersRead, object_of}
use Rattle.guppy_metadata.proofs.parts.read_parts.Given as goal

abbrev pub invariant-loop-parts : goal.invariant-loop-parts
invariant-loop-parts l = (rows : List (List ℕ × Json)) × MembersRead 125 l.initial.reader rows l.reader × TellsParts l.details (object_of rows) l.parts

abbrev pub decreases-loop-parts : goal.decreases-loop-parts
decreases-loop-parts l = length l.reader
