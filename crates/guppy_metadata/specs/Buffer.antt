-- Links in memory that is used again.
use Rattle.std.specs.Prelude.{List, take}
use Rattle.guppy_data.specs.declared.records.LinkRecord.{LinkRecord}
use Rattle.guppy_metadata.specs.declared.link_buffer.LinkBuffer.{LinkBuffer}

-- the links: the records that weren't let go
abbrev pub links_in : LinkBuffer → List LinkRecord
links_in links = take links.len links.records.items
