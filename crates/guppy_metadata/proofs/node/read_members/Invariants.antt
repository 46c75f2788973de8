use Rattle.std.proofs.Common.{◌≡◌, ◌++◌, ℕ, List, length}
use Rattle.json.specs.Json.{Json}
use Rattle.guppy_data.specs.declared.records.LinkRecord.{LinkRecord}
use Rattle.guppy_metadata.specs.Buffer.{links_in}
use Rattle.guppy_metadata.specs.Node.{TellsNode}
use Rattle.guppy_metadata.proofs.Turns.{MembersRead, object_of}
use Rattle.guppy_metadata.proofs.node.read_members.Given as goal

abbrev pub invariant-loop-name : goal.invariant-loop-name
invariant-loop-name l = (rows : List (List ℕ × Json)) × MembersRead 124 l.initial.reader rows l.reader
    × (row : List LinkRecord) × (links_in l.links ≡ links_in l.fn.links ++ row) × TellsNode l.packages.packages.now (object_of rows) l.node row

abbrev pub decreases-loop-name : goal.decreases-loop-name
decreases-loop-name l = length l.reader
