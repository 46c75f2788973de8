use Rattle.std.proofs.Common.{◌∙◌, List, Some, IfSome, sym, ap, subst, codes}
use Rattle.std.proofs.lemmas.Option.{none-some}
use Rattle.json.specs.Json.{Json}
use Rattle.json.specs.Value.{value_view}
use Rattle.guppy_data.specs.declared.records.Details.{Details}
use Rattle.guppy_data.specs.declared.records.LinkRecord.{LinkRecord}
use Rattle.guppy_data.specs.declared.records.PackageRecord.{PackageRecord}
use Rattle.guppy_data.specs.declared.records.WorkspaceRecord.{WorkspaceRecord}
use Rattle.guppy_metadata.specs.Records.{AreRecordsWith}
use Rattle.guppy_metadata.proofs.Refused.{of_error}
use Rattle.guppy_metadata.proofs.whole.whole_records.Goals as goal

abbrev SaysNone : Details → Json → Type 0
SaysNone details d = (packages : List PackageRecord) (links : List LinkRecord) (workspace : WorkspaceRecord) → AreRecordsWith details d packages links workspace → ⊥

pub returns-in-Err-clause-refused : goal.returns-in-Err-clause-refused
returns-in-Err-clause-refused c other d is =
    let none : SaysNone c.args.details (value_view c.in_ok-value.value) = λ packages links workspace are. none-some _ (sym (c.in-Err.ensures.told (codes "workspace_root")) ∙ are.workspace_is.root) in
    subst (λ o. IfSome o (SaysNone c.args.details)) (sym c.in_ok-value.ensures.json ∙ is) none

pub returns-in_err-records_in-clause-refused : goal.returns-in_err-records_in-clause-refused
returns-in_err-records_in-clause-refused c =
    of_error _ _ _ c.from_residual-in_err-records_in.ensures (λ e is other d said. subst (λ o. IfSome o (SaysNone c.args.details)) (ap Some c.in-Ok.ensures.told ∙ (sym c.in_ok-value.ensures.json ∙ said))
    (λ packages links workspace are. c.in_err-records_in.ensures (λ lacks. other (is.2 lacks)) (packages, links, workspace) are))
