use Rattle.std.proofs.lemmas.List.Sorted.{IsPermutation-refl}
use Rattle.guppy_graph.proofs.keyed.index_of.Goals as goal

pub indexed-requires : goal.indexed-requires
indexed-requires g c = rw c.in_ok-keyed_positions.ensures (IsPermutation-refl _)
