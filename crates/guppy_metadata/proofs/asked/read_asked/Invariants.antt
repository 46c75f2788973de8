use Rattle.std.proofs.Common.{◌-◌, ℕ, List, map, length}
use Rattle.json.specs.Json.{Json}
use Rattle.guppy_metadata.specs.Asked.{AreValuesOf}
use Rattle.guppy_metadata.proofs.Turns.{MembersRead, object_of}
use Rattle.guppy_metadata.proofs.asked.read_asked.Given as goal

abbrev pub invariant-loop-name : goal.invariant-loop-name
invariant-loop-name l = (rows : List (List ℕ × Json)) × MembersRead (l.depth - 1) l.initial.reader rows l.reader × AreValuesOf (object_of rows) (map (λ n. n.now) l.names) l.values

abbrev pub decreases-loop-name : goal.decreases-loop-name
decreases-loop-name l = length l.reader
