use Rattle.std.proofs.Common.{Bool, ◌&&◌, rules}
use Rattle.guppy_search.proofs.CombinedWords.{and_bits, in_intersection}
use Rattle.guppy_search.proofs.ix.ix_set.IxSet.intersect_with.Goals as goal

pub combine_with-requires-clause-bitwise : goal.combine_with-requires-clause-bitwise
combine_with-requires-clause-bitwise g c = ((λ (x y : Bool). x && y), and_bits _ (λ a b made m. search rules))

pub returns-clause-members : goal.returns-clause-members
returns-clause-members g c = λ p. in_intersection _ _ _ (c.combine_with.ensures.members _ (and_bits _ (λ a b made m. search rules)) p)
