use Rattle.std.proofs.lemmas.Result.{IfOk-from_err}
use Rattle.guppy_metadata.proofs.Refused.{refused}
use Rattle.guppy_metadata.proofs.package.add_details.Goals as goal

pub returns-in_err-made-clause-refused : goal.returns-in_err-made-clause-refused
returns-in_err-made-clause-refused c = refused _ _ _ c.from_residual.ensures (λ r holds. (_, holds.0)) c.in_err-made.ensures

pub returns-in_err-describe-in-With-clause-refused : goal.returns-in_err-describe-in-With-clause-refused
returns-in_err-describe-in-With-clause-refused c = refused _ _ _ c.from_residual-in_err-describe-in-With.ensures (λ r holds. (r, holds.1.described c.in-With.is)) c.in_err-describe-in-With.ensures.refused

pub returns-in_err-made-clause-targets : goal.returns-in_err-made-clause-targets
returns-in_err-made-clause-targets c = IfOk-from_err _ _ c.from_residual.ensures.0

pub returns-in_err-made-clause-detailed : goal.returns-in_err-made-clause-detailed
returns-in_err-made-clause-detailed c = IfOk-from_err _ _ c.from_residual.ensures.0

pub returns-in_err-made-clause-optional : goal.returns-in_err-made-clause-optional
returns-in_err-made-clause-optional c = IfOk-from_err _ _ c.from_residual.ensures.0

pub returns-in_err-describe-in-With-clause-targets : goal.returns-in_err-describe-in-With-clause-targets
returns-in_err-describe-in-With-clause-targets c = IfOk-from_err _ _ c.from_residual-in_err-describe-in-With.ensures.0

pub returns-in_err-describe-in-With-clause-detailed : goal.returns-in_err-describe-in-With-clause-detailed
returns-in_err-describe-in-With-clause-detailed c = IfOk-from_err _ _ c.from_residual-in_err-describe-in-With.ensures.0

pub returns-in_err-describe-in-With-clause-optional : goal.returns-in_err-describe-in-With-clause-optional
returns-in_err-describe-in-With-clause-optional c = IfOk-from_err _ _ c.from_residual-in_err-describe-in-With.ensures.0
