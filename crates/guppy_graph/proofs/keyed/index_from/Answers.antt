use Rattle.std.specs.Prelude.{is_some}
use Rattle.guppy_graph.proofs.Permutations.{IsPermutation-filter}
use Rattle.guppy_graph.proofs.keyed.index_from.Goals as goal

pub indexed-requires : goal.indexed-requires
indexed-requires g c = rw c.in_ok-keyed_of.ensures (IsPermutation-filter (λ p. is_some (g.S.Keyed.key_at c.args.source.now p)) _ _ c.requires)
