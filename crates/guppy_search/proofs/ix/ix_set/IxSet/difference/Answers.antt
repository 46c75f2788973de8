use Rattle.std.proofs.Common.{rules}
use Rattle.guppy_search.proofs.Exits.{if_ok}
use Rattle.guppy_search.proofs.CombinedWords.{except, and_not_bits, in_difference}
use Rattle.guppy_search.proofs.ix.ix_set.IxSet.difference.Goals as goal

pub combine_with-requires-clause-bitwise : goal.combine_with-requires-clause-bitwise
combine_with-requires-clause-bitwise g c = (except, and_not_bits _ (λ a b made m. search rules))

pub returns-clause-members : goal.returns-clause-members
returns-clause-members g c = λ p.
    in_difference _ _ _ (rw c.in_ok-rest.ensures.cases at (c.combine_with.ensures.members _ (and_not_bits _ (λ a b made m. search rules)) p))

pub returns-in_err-rest : goal.returns-in_err-rest
returns-in_err-rest g c = let none = c.from_residual.ensures.0 in record { count = if_ok _ _ none; members = if_ok _ _ none }
