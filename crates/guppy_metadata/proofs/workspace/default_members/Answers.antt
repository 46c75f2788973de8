use Rattle.guppy_metadata.proofs.Refused.{failed, lacking, refused}
use Rattle.guppy_metadata.proofs.workspace.default_members.Goals as goal

pub returns-in_err-texts : goal.returns-in_err-texts
returns-in_err-texts c = refused _ _ _ c.from_residual.ensures (λ ids are. (ids, are)) c.in_err-texts.ensures

pub returns-in_err-ids : goal.returns-in_err-ids
returns-in_err-ids c = failed _ _ _ _ c.from_residual-in_err-ids.ensures (λ e is. lacking _ e is)

pub returns-in_err-from_str : goal.returns-in_err-from_str
returns-in_err-from_str c = failed _ _ _ _ c.from_residual-in_err-from_str.ensures (λ e is. lacking _ e is)

pub returns-in_err-push : goal.returns-in_err-push
returns-in_err-push c = failed _ _ _ _ c.from_residual-in_err-push.ensures (λ e is. lacking _ e is)
