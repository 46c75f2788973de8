use Rattle.guppy_metadata.specs.Members.{data_of}
use Rattle.guppy_metadata.proofs.Libraries.{has_kinds}
use Rattle.guppy_metadata.proofs.Refused.{refused}
use Rattle.guppy_metadata.proofs.target.library_name.Goals as goal

pub returns-in_err-kind : goal.returns-in_err-kind
returns-in_err-kind c = refused _ _ _ c.from_residual.ensures (λ name holds. has_kinds (data_of c.args.target) name holds) c.in_err-kind.ensures
