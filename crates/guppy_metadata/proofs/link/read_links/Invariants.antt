use Rattle.std.proofs.Common.{◌≡◌, ◌++◌, List, length}
use Rattle.std.specs.List.{AllZip}
use Rattle.json.specs.Json.{Json}
use Rattle.guppy_data.specs.declared.records.LinkRecord.{LinkRecord}
use Rattle.guppy_metadata.specs.Buffer.{links_in}
use Rattle.guppy_metadata.specs.Links.{IsLink}
use Rattle.guppy_metadata.proofs.Turns.{ItemsRead}
use Rattle.guppy_metadata.proofs.link.read_links.Given as goal

abbrev pub invariant-loop-asking : goal.invariant-loop-asking
invariant-loop-asking l = (js : List Json) × ItemsRead 123 l.initial.reader js l.reader
    × (row : List LinkRecord) × (links_in l.links ≡ links_in l.fn.links ++ row) × AllZip (IsLink l.packages.packages.now l.from) js row

abbrev pub decreases-loop-asking : goal.decreases-loop-asking
decreases-loop-asking l = length l.reader
