use Rattle.std.proofs.Common.{◌≡◌, ◌≤◌, length, map, take}
use Rattle.guppy_flat.proofs.ordering.write.Given as goal

abbrev pub invariant-loop-place : goal.invariant-loop-place
invariant-loop-place g l = record {
  room : length l.positions ≤ length l.list;
  written : take l.place l.list ≡ map g.Ix.IndexType.index_of (take l.place l.positions);
}
