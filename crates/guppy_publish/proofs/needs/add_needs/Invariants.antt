use Rattle.std.proofs.Common.{◌≤◌, length, map, take}
use Rattle.guppy_publish.specs.Needs.{pair_texts, AreAdded}
use Rattle.guppy_publish.proofs.needs.add_needs.Given as goal

abbrev pub invariant-loop-pair : goal.invariant-loop-pair
invariant-loop-pair l = record {
  added : AreAdded (map pair_texts (take l.pair-index l.declared)) l.fn.links.items l.links.items;
  within : l.start ≤ length l.links.items;
}
