use Rattle.std.proofs.Common.{map, take}
use Rattle.json.specs.Value.{value_view}
use Rattle.guppy_metadata.specs.Buffer.{links_in}
use Rattle.guppy_metadata.specs.Links.{AreLinksOfAll}
use Rattle.guppy_metadata.proofs.link.links_of.Given as goal

abbrev pub invariant-loop-index : goal.invariant-loop-index
invariant-loop-index l = AreLinksOfAll l.packages.packages.now (map value_view (take l.index l.nodes)) (links_in l.links)
