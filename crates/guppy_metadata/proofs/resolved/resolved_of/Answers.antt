use Rattle.guppy_metadata.proofs.Refused.{refused}
use Rattle.guppy_metadata.proofs.resolved.resolved_of.Goals as goal

pub returns-in_err-usages_of : goal.returns-in_err-usages_of
returns-in_err-usages_of c = refused _ _ _ c.from_residual-in_err-usages_of.ensures (λ x holds. (_, holds.usages_are)) c.in_err-usages_of.ensures
