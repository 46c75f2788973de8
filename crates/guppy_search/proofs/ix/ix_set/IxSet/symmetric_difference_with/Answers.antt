use Rattle.std.proofs.Common.{rules}
use Rattle.guppy_search.proofs.CombinedWords.{differ, xor_bits, in_symmetric_difference}
use Rattle.guppy_search.proofs.ix.ix_set.IxSet.symmetric_difference_with.Goals as goal

pub combine_with-requires-clause-bitwise : goal.combine_with-requires-clause-bitwise
combine_with-requires-clause-bitwise g c = (differ, xor_bits _ (λ a b made m. search rules))

pub returns-clause-members : goal.returns-clause-members
returns-clause-members g c = λ p. in_symmetric_difference _ _ _ (c.combine_with.ensures.members _ (xor_bits _ (λ a b made m. search rules)) p)
