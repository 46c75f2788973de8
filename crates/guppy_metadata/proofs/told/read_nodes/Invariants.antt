use Rattle.std.proofs.Common.{◌++◌, List, length}
use Rattle.json.specs.Json.{Json}
use Rattle.guppy_data.specs.declared.records.LinkRecord.{LinkRecord}
use Rattle.std.specs.List.{AllZip}
use Rattle.guppy_metadata.specs.Buffer.{links_in}
use Rattle.guppy_metadata.specs.Links.{AreLinksOfAll}
use Rattle.guppy_metadata.specs.Package.{IsSlimPackage}
use Rattle.guppy_metadata.proofs.Turns.{ItemsRead}
use Rattle.guppy_metadata.proofs.told.read_nodes.Given as goal

abbrev pub invariant-loop-left : goal.invariant-loop-left
invariant-loop-left g l = (js : List Json) × ItemsRead 125 l.initial.reader js l.reader
    × AllZip IsSlimPackage l.initial.packages l.packages
    × (taken : List LinkRecord) × g.S.LinkSink.took l.sink taken × AreLinksOfAll l.initial.packages js (taken ++ links_in l.left)

abbrev pub decreases-loop-left : goal.decreases-loop-left
decreases-loop-left g l = length l.reader
