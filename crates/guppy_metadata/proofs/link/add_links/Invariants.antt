use Rattle.std.proofs.Common.{◌≡◌, ◌++◌, List, map, take}
use Rattle.std.specs.List.{AllZip}
use Rattle.json.specs.Value.{value_view}
use Rattle.guppy_data.specs.declared.records.LinkRecord.{LinkRecord}
use Rattle.guppy_metadata.specs.Buffer.{links_in}
use Rattle.guppy_metadata.specs.Links.{IsLink}
use Rattle.guppy_metadata.proofs.link.add_links.Given as goal

abbrev pub invariant-loop-index : goal.invariant-loop-index
invariant-loop-index l = (row : List LinkRecord) × (links_in l.links ≡ links_in l.fn.links ++ row) × AllZip (IsLink l.packages.packages.now l.from) (map value_view (take l.index l.item-items)) row
