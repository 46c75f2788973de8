use Rattle.std.proofs.Common.{ℕ, List, length, IfSome, IsSomeAnd, codes}
use Rattle.json.specs.Json.{Json}
use Rattle.json.specs.Find.{get}
use Rattle.guppy_data.specs.declared.records.LinkRecord.{LinkRecord}
use Rattle.std.specs.List.{AllZip}
use Rattle.guppy_metadata.specs.Links.{AreLinksOfList}
use Rattle.guppy_metadata.specs.Package.{IsSlimPackage}
use Rattle.guppy_metadata.specs.Sink.{AreRead}
use Rattle.guppy_metadata.proofs.Turns.{MembersRead, object_of}
use Rattle.guppy_metadata.proofs.told.read_resolve.Given as goal

abbrev pub invariant-loop-links : goal.invariant-loop-links
invariant-loop-links g l = (rows : List (List ℕ × Json)) × MembersRead 126 l.initial.reader rows l.reader
    × IfSome l.links (λ read. (links : List LinkRecord) × AreRead g.S.LinkSink.took read links
    × IsSomeAnd (get (codes "nodes") (object_of rows)) (λ nodes. AreLinksOfList l.initial.packages nodes links))
    × AllZip IsSlimPackage l.initial.packages l.packages

abbrev pub decreases-loop-links : goal.decreases-loop-links
decreases-loop-links g l = length l.reader
