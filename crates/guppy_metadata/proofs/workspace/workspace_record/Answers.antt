use Rattle.guppy_metadata.proofs.Refused.{refused}
use Rattle.guppy_metadata.proofs.workspace.workspace_record.Goals as goal

pub returns-in_err-root : goal.returns-in_err-root
returns-in_err-root c = refused _ _ _ c.from_residual.ensures (λ made holds. (_, holds.root)) c.in_err-root.ensures

pub returns-in_err-target_directory : goal.returns-in_err-target_directory
returns-in_err-target_directory c = refused _ _ _ c.from_residual-in_err-target_directory.ensures (λ made holds. (_, holds.target_directory)) c.in_err-target_directory.ensures

pub returns-in_err-build_directory : goal.returns-in_err-build_directory
returns-in_err-build_directory c =
    refused _ _ _ c.from_residual-in_err-build_directory.ensures
    (λ made holds. ((made.target_directory, made.build_directory), (holds.target_directory, holds.build_directory))) c.in_err-build_directory.ensures

pub returns-in_err-default_members : goal.returns-in_err-default_members
returns-in_err-default_members c = refused _ _ _ c.from_residual-in_err-default_members.ensures (λ made holds. (made.default_members.items, holds.default_members)) c.in_err-default_members.ensures

pub returns-in_err-metadata_table : goal.returns-in_err-metadata_table
returns-in_err-metadata_table c = refused _ _ _ c.from_residual-in_err-metadata_table.ensures (λ made holds. (_, holds.metadata_table)) c.in_err-metadata_table.ensures
