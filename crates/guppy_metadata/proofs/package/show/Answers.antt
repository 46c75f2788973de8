use Rattle.guppy_metadata.proofs.Refused.{refused}
use Rattle.guppy_metadata.proofs.package.show.Goals as goal

pub returns-in_err-made-clause-refused : goal.returns-in_err-made-clause-refused
returns-in_err-made-clause-refused c = refused _ _ _ c.from_residual.ensures (λ r holds. (_, holds.description)) c.in_err-made.ensures

pub returns-in_err-made-2-clause-refused : goal.returns-in_err-made-2-clause-refused
returns-in_err-made-2-clause-refused c = refused _ _ _ c.from_residual-in_err-made-2.ensures (λ r holds. (_, holds.license)) c.in_err-made-2.ensures

pub returns-in_err-made-3-clause-refused : goal.returns-in_err-made-3-clause-refused
returns-in_err-made-3-clause-refused c = refused _ _ _ c.from_residual-in_err-made-3.ensures (λ r holds. (_, holds.repository)) c.in_err-made-3.ensures

pub returns-in_err-made-4-clause-refused : goal.returns-in_err-made-4-clause-refused
returns-in_err-made-4-clause-refused c = refused _ _ _ c.from_residual-in_err-made-4.ensures (λ r holds. (r.publish, holds.publish)) c.in_err-made-4.ensures
