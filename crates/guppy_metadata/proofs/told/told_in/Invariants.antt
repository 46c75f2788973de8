use Rattle.std.proofs.Common.{ℕ, List, length}
use Rattle.json.specs.Json.{Json}
use Rattle.guppy_metadata.specs.Told.{Tells}
use Rattle.guppy_metadata.proofs.Turns.{MembersRead, object_of}
use Rattle.guppy_metadata.proofs.told.told_in.Given as goal

abbrev pub invariant-loop-told : goal.invariant-loop-told
invariant-loop-told g l = (rows : List (List ℕ × Json)) × MembersRead 127 l.initial.reader rows l.reader × Tells g.P.PackageSink.took g.S.LinkSink.took l.details (object_of rows) l.told

abbrev pub decreases-loop-told : goal.decreases-loop-told
decreases-loop-told g l = length l.reader
